use Rattle.bl_proc_steps.specs.declared.approach.Approach.TheVariants as approach
use Rattle.bl_proc_writes.specs.declared.post.PostStage.TheVariants as post
use Rattle.bl_store.specs.Hands.{known, IsSameHand, HasNoStock}
use Rattle.bl_index_events.specs.Runs.{Runs, IsSameProcess}
use Rattle.bl_index_write.specs.Events.{posting}
use Rattle.bl_index_write.proofs.posting.post_until.Given as goal

abbrev pub invariant-loop : goal.invariant-loop
invariant-loop g l = record {
  same : IsSameHand l.fn.hand.seat l.hand.seat;
  empty : HasNoStock l.hand.seat;
  runs : Runs l.tree l.hand (posting l.target (post.Coming approach.Start) tt);
  since : IsSameProcess (known l.fn.hand.seat) (known l.hand.seat);
}
