use Rattle.std.proofs.Common.{◌≡◌, ◌-◌, take, drop}
use Rattle.bl_page.specs.Faults.{pairs_of}
use Rattle.bl_index_read.proofs.leaf_rows.rows_in.Given as goal

abbrev pub invariant-loop-place : goal.invariant-loop-place
invariant-loop-place g l = record {
  same : l.hand ≡ l.fn.hand;
  grown : l.rows.items ≡ take (l.place - l.first) (drop l.first (pairs_of (g.W.Words.shown l.source l.fn.hand)));
}
