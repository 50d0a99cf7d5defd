use Rattle.std.proofs.Common.{take}
use Rattle.bl_world.specs.Views.{view_of}
use Rattle.bl_world.specs.Turns.{RunsTo}
use Rattle.bl_world.proofs.lists.Lists.carry.Given as goal

abbrev pub invariant-loop-turn : goal.invariant-loop-turn
invariant-loop-turn l = RunsTo (view_of l.fn.self) (take l.turn-index l.turns) (view_of l.self)
