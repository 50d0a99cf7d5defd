use Rattle.std.proofs.Common.{ℕ}
use Rattle.bl_store.specs.Hands.{known, IsSameHand, IsSameStock}
use Rattle.bl_index_range.proofs.RangeSteps.{IsUnderWay, left_while}
use Rattle.bl_index_range.proofs.ranging.gather.Given as goal

abbrev pub invariant-loop-goes_on : goal.invariant-loop-goes_on
invariant-loop-goes_on l = record {
  same : IsSameHand l.fn.hand.seat l.hand.seat × IsSameStock l.fn.hand.seat l.hand.seat;
  under_way : IsUnderWay l.tree l.hand l.fn.hand.number l.limits l.fn.gathering.at l.to l.fn.gathering.rows.items (known l.fn.hand.seat) l.gathering l.goes_on;
}

abbrev pub decreases-loop-goes_on : goal.decreases-loop-goes_on
decreases-loop-goes_on l = left_while l.limits.rounds l.gathering l.goes_on
