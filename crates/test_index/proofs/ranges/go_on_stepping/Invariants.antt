use Rattle.bl_index.specs.Calls.{IsPassOf}
use Rattle.test_index.proofs.ranges.go_on_stepping.Given as goal

abbrev pub invariant-loop-step : goal.invariant-loop-step
invariant-loop-step g l = IsPassOf l.index l.pass
