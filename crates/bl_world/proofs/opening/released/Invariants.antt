use Rattle.bl_world.specs.WorldSteps.{AreReleased}
use Rattle.bl_world.proofs.opening.released.Given as goal

abbrev pub invariant-loop : goal.invariant-loop
invariant-loop l = AreReleased l.counter l.owners.items
