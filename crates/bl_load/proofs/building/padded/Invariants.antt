use Rattle.bl_load.specs.Trees.{IsPadded}
use Rattle.bl_load.proofs.building.padded.Given as goal

abbrev pub invariant-loop-x : goal.invariant-loop-x
invariant-loop-x l = IsPadded l.fn.pages.items l.x l.all.items
