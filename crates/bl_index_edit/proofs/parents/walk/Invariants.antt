use Rattle.bl_store.specs.Hands.{known, HasNoStock, IsSameHand}
use Rattle.bl_index_events.specs.Runs.{IsSameProcess, Runs}
use Rattle.bl_index_edit.specs.Events.{IsWalking}
use Rattle.bl_index_edit.proofs.parents.walk.Given as goal

abbrev pub invariant-loop : goal.invariant-loop
invariant-loop g l = record {
  same : IsSameHand l.fn.hand.seat l.hand.seat;
  empty : HasNoStock l.hand.seat;
  runs : Runs l.tree l.hand (known l.hand.seat).state;
  walking : IsWalking (g.P.Poster.level_of l.poster) (g.P.Poster.key_of l.poster) (g.P.Poster.staged l.poster) l.at l.parent l.child (known l.hand.seat).state;
  since : IsSameProcess (known l.fn.hand.seat) (known l.hand.seat);
}
