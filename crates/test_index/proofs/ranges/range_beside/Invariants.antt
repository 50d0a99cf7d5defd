use Rattle.std.proofs.Common.{◌≤◌}
use Rattle.bl_index.specs.Calls.{IsPassOf}
use Rattle.test_index.proofs.ranges.range_beside.Given as goal

abbrev pub invariant-loop-range : goal.invariant-loop-range
invariant-loop-range l = record { own : IsPassOf l.index l.pass; few : l.answered ≤ l._range; fewer : l.torn ≤ l._range }
