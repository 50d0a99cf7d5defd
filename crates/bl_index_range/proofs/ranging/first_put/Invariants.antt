use Rattle.std.proofs.Common.{◌≡◌, ℕ, ◌<◌, get_or}
use Rattle.bl_index_range.specs.Gathering.{IsUnput}
use Rattle.bl_index_range.specs.declared.ranging.Kept.{Kept}
use Rattle.bl_index_range.proofs.ranging.first_put.Given as goal

abbrev pub invariant-loop-place : goal.invariant-loop-place
invariant-loop-place l = record {
  same : l.hand ≡ l.fn.hand;
  unput : (k : ℕ) (d : Kept) → k < l.place → IsUnput l.fn.hand.seat (get_or l.kept k d);
}
