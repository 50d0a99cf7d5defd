use Rattle.std.proofs.Common.{◌≡◌, ◌≤◌, None}
use Rattle.bl_store.specs.Hands.{IsOf, IsRunning, known}
use Rattle.test_store_rule.specs.Holding.{holding}
use Rattle.test_store_race.proofs.loading.gets.Given as goal

abbrev pub invariant-loop-round : goal.invariant-loop-round
invariant-loop-round l = record {
  own : IsOf l.store.table.shared.table_id l.store.layout l.hand.seat;
  running : IsRunning l.hand.seat;
  empty : known l.hand.seat ≡ holding None;
  few : l.done ≤ l.round;
}
