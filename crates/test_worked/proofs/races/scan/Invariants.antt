use Rattle.bl_index.specs.Calls.{IsPassOf}
use Rattle.test_worked.proofs.races.scan.Given as goal

abbrev pub invariant-loop-scan : goal.invariant-loop-scan
invariant-loop-scan l = IsPassOf l.index l.pass
