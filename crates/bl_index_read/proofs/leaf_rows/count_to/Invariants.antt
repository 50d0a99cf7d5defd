use Rattle.std.proofs.Common.{ℕ, ◌≡◌, ◌+◌, ◌-◌, ◌<◌, ◌≤◌}
use Rattle.bl_model.specs.Rows.{key_at}
use Rattle.bl_page.specs.Faults.{pairs_of, count_in}
use Rattle.bl_index_read.proofs.leaf_rows.count_to.Given as goal

abbrev pub invariant-loop-behind : goal.invariant-loop-behind
invariant-loop-behind g l = record {
  same : l.hand ≡ l.fn.hand;
  none : (j : ℕ) → l.count - l.behind ≤ j → j < count_in (g.W.Words.shown l.source l.fn.hand) → l.from + 1 ≤ key_at (pairs_of (g.W.Words.shown l.source l.fn.hand)) j;
}
