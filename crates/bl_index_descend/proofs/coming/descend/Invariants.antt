use Rattle.bl_proc_steps.specs.declared.approach.Approach.TheVariants as approach
use Rattle.bl_store.specs.Hands.{known, IsSameHand, IsSameStamp, IsSameStock}
use Rattle.bl_index_events.specs.Runs.{IsOn, IsSameProcess}
use Rattle.bl_index_descend.proofs.coming.descend.Given as goal

abbrev pub invariant-loop : goal.invariant-loop
invariant-loop g l = record {
  same : IsSameHand l.fn.hand.seat l.hand.seat × IsSameStamp l.fn.hand.seat l.hand.seat × IsSameStock l.fn.hand.seat l.hand.seat;
  process : IsOn l.tree.store.layout (known l.hand.seat) (g.J.Target.at l.target l.path approach.Start);
  since : IsSameProcess (known l.fn.hand.seat) (known l.hand.seat);
}
