use Rattle.std.proofs.Common.{◌≡◌, ℕ, ◌+◌, ◌≤◌, ◌<◌, length}
use Rattle.bl_store.specs.Hands.{IsQuiet, IsSameReading, IsStockOf, IsTried}
use Rattle.bl_reserve.proofs.reserving.try_frames.Given as goal

abbrev pub invariant-loop-frame : goal.invariant-loop-frame
invariant-loop-frame g l = record {
  same : IsQuiet l.fn.hand.seat l.hand.seat;
  page : l.stock.page ≡ l.fn.stock.page;
  stock : IsStockOf l.hand.seat l.stock;
  few : l.stock.count ≤ l.fn.wanted;
  more : l.fn.stock.count ≤ l.stock.count;
  got : length l.hand.seat.me.0.got + l.fn.stock.count ≡ length l.fn.hand.seat.me.0.got + l.stock.count;
  seen : (f : ℕ) → l.fn.from ≤ f → f < l.frame → IsTried l.hand.seat f;
  kept : (f : ℕ) → IsTried l.fn.hand.seat f → IsTried l.hand.seat f;
  reads : IsSameReading l.fn.hand.seat l.hand.seat;
}
