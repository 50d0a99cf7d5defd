use Rattle.std.proofs.Common.{◌≡◌, ℕ, ◌<◌, length}
use mathlib.Core.Option.{some}
use lib.ListN.{get_elem?}
use Rattle.test_store_rule.specs.Holding.{first_words}
use Rattle.test_store_rule.proofs.hands.Given as goal

abbrev pub invariant-loop-page : goal.invariant-loop-page
invariant-loop-page l = record {
  size : length l.first.items ≡ l.page;
  each : (k : ℕ) → k < l.page → get_elem? l.first.items k ≡ some (first_words k);
}
