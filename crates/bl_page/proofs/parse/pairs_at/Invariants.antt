use Rattle.std.proofs.Common.{◌≡◌, ◌+◌, ◌*◌, ◌-◌, ◌++◌, drop, length}
use Rattle.bl_page.specs.Faults.{pairs_in}
use Rattle.bl_page.proofs.parse.pairs_at.Given as goal

abbrev pub invariant-loop-i : goal.invariant-loop-i
invariant-loop-i l = record {
  count : length l.pairs.items ≡ l.i;
  pairs : l.pairs.items ++ pairs_in (l.count - l.i) (drop (4 + 2 * l.i) l.words) ≡ pairs_in l.count (drop 4 l.words);
}
