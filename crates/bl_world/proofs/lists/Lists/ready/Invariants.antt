use Rattle.std.proofs.Common.{ℕ, ◌+◌, ◌<◌}
use Rattle.bl_world.specs.Views.{view_of}
use Rattle.bl_world.specs.Waits.{IsGoing}
use Rattle.bl_world.proofs.lists.Lists.ready.Given as goal

abbrev pub invariant-loop-index : goal.invariant-loop-index
invariant-loop-index l = (n : ℕ) → n < l.index → ¬ IsGoing (view_of l.self) (n + 1)
