use Rattle.std.proofs.Common.{ℕ, ◌<◌}
use Rattle.bl_world.specs.Views.{view_of}
use Rattle.bl_world.specs.Turns.{IsFree}
use Rattle.bl_world.proofs.lists.Lists.least_free.Given as goal

abbrev pub invariant-loop-at : goal.invariant-loop-at
invariant-loop-at l = (x : ℕ) → x < l.at → ¬ IsFree (view_of l.self) x
