use Rattle.bl_store.specs.Hands.{known, IsSameHand, IsSameStamp, IsSameStock}
use Rattle.bl_index_events.specs.Runs.{IsOn, IsSameProcess}
use Rattle.bl_index_edit.specs.Events.{IsWalking}
use Rattle.bl_index_edit.proofs.parents.walk_within.Given as goal

abbrev pub invariant-loop-turn : goal.invariant-loop-turn
invariant-loop-turn g l = record {
  same : IsSameHand l.fn.hand.seat l.hand.seat × IsSameStamp l.fn.hand.seat l.hand.seat × IsSameStock l.fn.hand.seat l.hand.seat;
  process : IsOn l.tree.store.layout (known l.hand.seat) (known l.hand.seat).state;
  walking : IsWalking (g.P.Poster.level_of l.poster) (g.P.Poster.key_of l.poster) (g.P.Poster.staged l.poster) l.at l.parent l.child (known l.hand.seat).state;
  since : IsSameProcess (known l.fn.hand.seat) (known l.hand.seat);
}
