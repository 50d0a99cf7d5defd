use Rattle.bl_proc_compress.specs.declared.compress.CompressStage.TheVariants as stages
use Rattle.bl_store.specs.Hands.{known, IsSameHand, HasNoStock}
use Rattle.bl_index_events.specs.Runs.{Runs, IsSameProcess}
use Rattle.bl_index_descend.specs.Events.{HoldsNone}
use Rattle.bl_index_compress.specs.CompressStands.{compress_of}
use Rattle.bl_index_compress.proofs.compressing.compress_until.Given as goal

abbrev pub invariant-loop : goal.invariant-loop
invariant-loop g l = record {
  same : IsSameHand l.fn.hand.seat l.hand.seat;
  empty : HasNoStock l.hand.seat;
  free : HoldsNone l.from;
  runs : Runs l.tree l.hand (compress_of l.target (stages.Coming l.from));
  since : IsSameProcess (known l.fn.hand.seat) (known l.hand.seat);
}
