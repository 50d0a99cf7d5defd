use Rattle.bl_store.specs.Hands.{known, IsSameHand, IsSameStamp, IsSameStock}
use Rattle.bl_index_events.specs.Runs.{IsOn, IsSameProcess}
use Rattle.bl_index_descend.specs.Events.{HoldsNone}
use Rattle.bl_index_descend.proofs.coming.come_trying.Given as goal

abbrev pub invariant-loop-round : goal.invariant-loop-round
invariant-loop-round g l = record {
  same : IsSameHand l.fn.hand.seat l.hand.seat × IsSameStamp l.fn.hand.seat l.hand.seat × IsSameStock l.fn.hand.seat l.hand.seat;
  process : IsOn l.tree.store.layout (known l.hand.seat) (g.J.Target.at l.target l.path l.from);
  free : HoldsNone l.from;
  since : IsSameProcess (known l.fn.hand.seat) (known l.hand.seat);
}
