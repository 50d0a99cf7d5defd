use Rattle.std.proofs.Common.{◌≡◌, ◌≤◌, ◌<◌, Some}
use Rattle.bl_store.specs.Hands.{IsOf, HasNoStock, known}
use Rattle.test_store_rule.specs.Holding.{holding}
use Rattle.test_store_race.proofs.loading.puts.Given as goal

abbrev pub invariant-loop-round : goal.invariant-loop-round
invariant-loop-round l = record {
  own : IsOf l.store.table.shared.table_id l.store.layout l.hand.seat;
  unused : HasNoStock l.hand.seat;
  held : known l.hand.seat ≡ holding (Some l.page);
  inside : l.page < l.store.layout.pages;
  few : l.done ≤ l.round;
}
