use Rattle.std.proofs.Common.{ℕ, ◌<◌, ◌≤◌}
use Rattle.bl_model.specs.Rows.{key_at}
use Rattle.bl_proc.proofs.parts.count_to.Given as goal

abbrev pub invariant-loop-i : goal.invariant-loop-i
invariant-loop-i l = (j : ℕ) → j < l.i → key_at l.rows j ≤ l.from
