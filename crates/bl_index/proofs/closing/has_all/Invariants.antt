use Rattle.std.proofs.Common.{ℕ, ◌<◌}
use Rattle.bl_index.specs.Closed.{HasPass}
use Rattle.bl_index.proofs.closing.has_all.Given as goal

abbrev pub invariant-loop-number : goal.invariant-loop-number
invariant-loop-number l = (n : ℕ) → n < l.number → HasPass l.passes n
