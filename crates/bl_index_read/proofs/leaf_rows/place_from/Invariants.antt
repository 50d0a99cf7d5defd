use Rattle.std.proofs.Common.{ℕ, ◌≡◌, ◌<◌}
use Rattle.bl_model.specs.Rows.{key_at}
use Rattle.bl_page.specs.Faults.{pairs_of}
use Rattle.bl_index_read.proofs.leaf_rows.place_from.Given as goal

abbrev pub invariant-loop-place : goal.invariant-loop-place
invariant-loop-place g l = record {
  same : l.hand ≡ l.fn.hand;
  below : (j : ℕ) → j < l.place → key_at (pairs_of (g.W.Words.shown l.source l.fn.hand)) j < l.from;
}
