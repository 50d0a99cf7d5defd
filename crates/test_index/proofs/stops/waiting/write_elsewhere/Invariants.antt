use Rattle.bl_index.specs.Calls.{IsPassOf}
use Rattle.test_index.proofs.stops.waiting.write_elsewhere.Given as goal

abbrev pub invariant-loop : goal.invariant-loop
invariant-loop g l = IsPassOf l.index l.pass
