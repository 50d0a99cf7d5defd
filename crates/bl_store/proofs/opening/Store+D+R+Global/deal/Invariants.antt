use Rattle.std.proofs.Common.{◌≡◌, ◌-◌, []}
use Rattle.bl_store_rule.specs.Frames.{share}
use Rattle.bl_store.specs.Opening.{IsDealt}
use Rattle.bl_store.proofs.opening.Store+D+R+Global.deal.Given as goal

abbrev pub invariant-loop-number : goal.invariant-loop-number
invariant-loop-number g l = record {
  dealt : IsDealt l.fn.self.table.shared.table_id l.fn.self.layout l.fn.self.table.shared.key.known.value (l.number - 1) l.hands.items;
  table : l.seat.table_id ≡ l.fn.self.table.shared.table_id;
  view : l.seat.me ≡ (share l.fn.self.layout l.fn.self.table.shared.key.known.value (l.number - 1) l.fn.self.layout.passes, []);
}
