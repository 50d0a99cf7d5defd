use Rattle.std.proofs.Common.{◌≡◌, ℕ, ◌≤◌, ◌<◌}
use Rattle.bl_store_rule.specs.Frames.{owner_at}
use Rattle.bl_store.specs.Hands.{IsSameHand, IsSameStamp, IsSameStock, SawTaken, known}
use Rattle.bl_reserve.proofs.reserving.take_from.Given as goal

abbrev pub invariant-loop-page : goal.invariant-loop-page
invariant-loop-page g l = record {
  same : IsSameHand l.fn.hand.seat l.hand.seat × IsSameStamp l.fn.hand.seat l.hand.seat × IsSameStock l.fn.hand.seat l.hand.seat;
  known : known l.hand.seat ≡ known l.fn.hand.seat;
  seen : (x : ℕ) → l.fn.from ≤ x → x < l.page → SawTaken l.hand.seat (owner_at l.fn.store.layout x);
  kept : (i : ℕ) → SawTaken l.fn.hand.seat i → SawTaken l.hand.seat i;
}
