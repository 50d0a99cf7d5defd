use Rattle.std.proofs.Common.{◌≡◌, ℕ, ◌+◌, ◌≤◌, length}
use Rattle.bl_store.specs.Hands.{IsSameHand, IsSameStamp, IsSameStock, known}
use Rattle.bl_store_rule.specs.declared.view.Sweep.TheVariants.{Over}
use Rattle.bl_store.proofs.store.Store.sweep_owners.Given as goal

abbrev pub invariant-loop-i : goal.invariant-loop-i
invariant-loop-i g l = length l.states ≡ 64

abbrev pub invariant-loop-i-2 : goal.invariant-loop-i-2
invariant-loop-i-2 g l = record {
  same : IsSameHand l.fn.hand.seat l.hand.seat × IsSameStamp l.fn.hand.seat l.hand.seat × IsSameStock l.fn.hand.seat l.hand.seat;
  observed : (pages : ℕ) × (pages ≤ l.released) × g.M.SweepPlay.then (known l.fn.hand.seat) pages (known l.hand.seat);
  swept : l.hand.seat.me.0.sweep ≡ Over l.oldest l.fn.self.layout.passes;
  count : l.hand.seat.me.0.releases ≡ l.fn.hand.seat.me.0.releases + l.released;
  few : l.released ≤ l.i;
}
