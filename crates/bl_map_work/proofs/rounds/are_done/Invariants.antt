use Rattle.std.proofs.Common.{take}
use Rattle.bl_map_work.specs.Rounds.{AreDone}
use Rattle.bl_map_work.proofs.rounds.are_done.Given as goal

abbrev pub invariant-loop-task : goal.invariant-loop-task
invariant-loop-task g l = AreDone (take l.task-index l.tasks)
