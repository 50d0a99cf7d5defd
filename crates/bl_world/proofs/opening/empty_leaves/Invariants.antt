use Rattle.bl_world.specs.WorldSteps.{AreEmptyLeaves}
use Rattle.bl_world.proofs.opening.empty_leaves.Given as goal

abbrev pub invariant-loop : goal.invariant-loop
invariant-loop l = AreEmptyLeaves l.counter l.pages.items
