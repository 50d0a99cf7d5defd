use Rattle.bl_map.specs.Handles.{IsSameHandle}
use Rattle.test_map_work.proofs.rounds.FillingJob.go_on.Given as goal

abbrev pub invariant-loop-row : goal.invariant-loop-row
invariant-loop-row g l = IsSameHandle l.fn.handle l.handle
