use Rattle.std.proofs.Common.{◌≤◌}
use Rattle.bl_index.specs.Calls.{IsPassOf}
use Rattle.test_index.proofs.resizing.found.Given as goal

abbrev pub invariant-loop-key : goal.invariant-loop-key
invariant-loop-key l = record {
  pass : IsPassOf l.index l.pass;
  few : l.found ≤ l.key;
}
