use Rattle.std.proofs.Common.{◌≡◌, ℕ, ◌<◌, List, length, get_or}
use Rattle.bl_store_rule.specs.declared.view.Reading.TheVariants.{At}
use Rattle.bl_store.proofs.store.Store.gather.Given as goal

abbrev pub invariant-loop-i : goal.invariant-loop-i
invariant-loop-i g l = record {
  table : l.hand.seat.table_id ≡ l.fn.hand.seat.table_id;
  me : l.hand.seat.me ≡ l.fn.hand.seat.me;
  long : length l.words ≡ 32;
  read : (xs : List ℕ) → l.fn.hand.seat.me.0.reading ≡ At l.fn.frame xs → (k : ℕ) → k < l.i → get_or l.words k 0 ≡ get_or xs k 0;
}
