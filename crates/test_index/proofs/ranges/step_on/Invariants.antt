use Rattle.bl_index.specs.Calls.{IsPassOf}
use Rattle.test_index.proofs.ranges.step_on.Given as goal

abbrev pub invariant-loop : goal.invariant-loop
invariant-loop g l = IsPassOf l.index l.pass
