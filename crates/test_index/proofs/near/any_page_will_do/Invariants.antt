use Rattle.bl_index.specs.Calls.{IsPassOf}
use Rattle.test_index.proofs.near.any_page_will_do.Given as goal

abbrev pub invariant-loop-place : goal.invariant-loop-place
invariant-loop-place g l = IsPassOf l.index l.pass
