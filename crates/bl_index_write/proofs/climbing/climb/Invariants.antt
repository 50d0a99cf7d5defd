use Rattle.std.proofs.Common.{◌<◌, ◌≤◌}
use Rattle.bl_proc_writes.specs.declared.post.PostStage.TheVariants as post
use Rattle.bl_store.specs.Hands.{known, IsSameHand, HasNoStock}
use Rattle.bl_index_events.specs.Runs.{Runs, IsSameProcess}
use Rattle.bl_index_edit.specs.Insertions.{climb_posting}
use Rattle.bl_index_descend.specs.Events.{HoldsNone}
use Rattle.bl_index_write.proofs.climbing.climb.Given as goal

abbrev pub invariant-loop : goal.invariant-loop
invariant-loop g l = record {
  same : IsSameHand l.fn.hand.seat l.hand.seat;
  empty : HasNoStock l.hand.seat;
  least : 0 < l.level;
  most : l.level ≤ 12;
  stands : (first : 0 < l.level) × (last : l.level ≤ 12) × Runs l.tree l.hand (climb_posting l.fn.insertion.key l.fn.insertion.placing l.level l.separator first last l.path (post.Coming l.from) tt tt);
  free : HoldsNone l.from;
  since : IsSameProcess (known l.fn.hand.seat) (known l.hand.seat);
}
