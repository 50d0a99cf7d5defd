use Rattle.std.proofs.Common.{◌≡◌, ◌≤◌}
use Rattle.bl_store.specs.Hands.{IsQuiet, drafts}
use Rattle.bl_reserve.proofs.reserving.give_back.Given as goal

abbrev pub invariant-loop-stock : goal.invariant-loop-stock
invariant-loop-stock g l = record {
  same : IsQuiet l.fn.hand.seat l.hand.seat;
  seen : l.hand.seat.me.0.seen ≡ l.fn.hand.seat.me.0.seen;
  got : l.hand.seat.me.0.got ≡ l.fn.hand.seat.me.0.got;
  frames : l.stock.frames ≡ l.fn.stock.frames;
  stock : l.hand.seat.me.0.stock ≡ drafts l.stock.frames l.stock.count;
  less : l.stock.count ≤ l.fn.stock.count;
}

abbrev pub decreases-loop-stock : goal.decreases-loop-stock
decreases-loop-stock g l = l.stock.count
