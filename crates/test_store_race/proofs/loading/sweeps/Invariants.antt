use Rattle.bl_store.specs.Hands.{IsOf}
use Rattle.test_store_race.proofs.loading.sweeps.Given as goal

abbrev pub invariant-loop : goal.invariant-loop
invariant-loop l = IsOf l.store.table.shared.table_id l.store.layout l.hand.seat
