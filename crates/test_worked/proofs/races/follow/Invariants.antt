use Rattle.bl_index.specs.Calls.{IsPassOf}
use Rattle.test_worked.proofs.races.follow.Given as goal

abbrev pub invariant-loop-level : goal.invariant-loop-level
invariant-loop-level g l = IsPassOf l.index l.pass
