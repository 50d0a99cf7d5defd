use Rattle.std.proofs.Common.{◌≡◌, ◌+◌, ◌≤◌, length}
use Rattle.bl_store.specs.Hands.{IsQuiet, IsSameReading, IsStockOf}
use Rattle.bl_reserve.proofs.reserving.try_counted.Given as goal

abbrev pub invariant-loop : goal.invariant-loop
invariant-loop g l = record {
  same : IsQuiet l.fn.hand.seat l.hand.seat;
  page : l.stock.page ≡ l.fn.stock.page;
  stock : IsStockOf l.hand.seat l.stock;
  few : l.stock.count ≤ l.fn.wanted;
  more : l.fn.stock.count ≤ l.stock.count;
  got : length l.hand.seat.me.0.got + l.fn.stock.count ≡ length l.fn.hand.seat.me.0.got + l.stock.count;
  reads : IsSameReading l.fn.hand.seat l.hand.seat;
}
