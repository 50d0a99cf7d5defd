use Rattle.std.proofs.Common.{◌≡◌, ◌≤◌}
use Rattle.bl_store.specs.Hands.{IsSameHand, IsSameReading, IsSameStamp, IsSameStock, known}
use Rattle.bl_store_rule.specs.declared.view.Sweep.TheVariants.{Over}
use Rattle.bl_store.proofs.store.Store.recycle.Given as goal

abbrev pub invariant-loop-i : goal.invariant-loop-i
invariant-loop-i g l = record {
  same : IsSameHand l.fn.hand.seat l.hand.seat × IsSameStamp l.fn.hand.seat l.hand.seat × IsSameStock l.fn.hand.seat l.hand.seat;
  known : known l.hand.seat ≡ known l.fn.hand.seat;
  swept : l.hand.seat.me.0.sweep ≡ Over l.oldest l.fn.self.layout.passes;
  few : l.kept ≤ l.i;
  reads : IsSameReading l.fn.hand.seat l.hand.seat;
}
