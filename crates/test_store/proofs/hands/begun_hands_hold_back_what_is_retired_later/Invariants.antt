use Rattle.std.proofs.Common.{◌≡◌, ◌*◌, ◌≤◌, None}
use Rattle.bl_store.specs.Hands.{known, IsOf, HasNoStock}
use Rattle.test_store_rule.specs.Holding.{holding}
use Rattle.test_store.proofs.hands.begun_hands_hold_back_what_is_retired_later.Given as goal

abbrev pub invariant-loop-word : goal.invariant-loop-word
invariant-loop-word g l = record {
  own : IsOf l.store.table.shared.table_id l.store.layout l.two.seat;
  few : l.changed ≤ l.word;
  low : l.released ≤ 4294967296 * l.word;
  empty : (known l.two.seat ≡ holding None) × HasNoStock l.two.seat;
}
