use Rattle.bl_index.specs.Calls.{IsPassOf}
use Rattle.test_index.proofs.resizing.fill.Given as goal

abbrev pub invariant-loop-key : goal.invariant-loop-key
invariant-loop-key g l = IsPassOf l.index l.pass
