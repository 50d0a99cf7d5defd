use Rattle.std.proofs.Common.{take}
use Rattle.bl_world.specs.Views.{view_of}
use Rattle.bl_world.specs.Turns.{AllStarted}
use Rattle.bl_world.proofs.lists.Lists.has_all.Given as goal

abbrev pub invariant-loop-turn : goal.invariant-loop-turn
invariant-loop-turn l = AllStarted (view_of l.self) (take l.turn-index l.turns)
