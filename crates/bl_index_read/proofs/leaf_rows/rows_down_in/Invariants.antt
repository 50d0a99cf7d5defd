use Rattle.std.proofs.Common.{◌≡◌, take, reverse}
use Rattle.bl_page.specs.Faults.{pairs_of}
use Rattle.bl_index_read.proofs.leaf_rows.rows_down_in.Given as goal

abbrev pub invariant-loop-done : goal.invariant-loop-done
invariant-loop-done g l = record {
  same : l.hand ≡ l.fn.hand;
  taken : l.rows.items ≡ take l.done (reverse (take l.last (pairs_of (g.W.Words.shown l.source l.fn.hand))));
}
