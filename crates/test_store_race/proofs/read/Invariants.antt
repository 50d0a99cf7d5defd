use Rattle.bl_store.specs.Hands.{IsSameHand}
use Rattle.test_store_rule.specs.Holding.{IsFresh}
use Rattle.test_store_race.proofs.read.Given as goal

abbrev pub invariant-loop-round : goal.invariant-loop-round
invariant-loop-round l = record {
  same : IsSameHand l.fn.hand.seat l.hand.seat;
  fresh : IsFresh l.fn.store.table.shared.table_id l.fn.store.layout l.hand;
}
