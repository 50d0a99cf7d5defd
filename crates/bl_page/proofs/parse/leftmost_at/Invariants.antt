use Rattle.std.proofs.Common.{◌≡◌, length, take, drop}
use Rattle.bl_page.specs.Pairs.{AreNumbers}
use Rattle.bl_page.proofs.parse.leftmost_at.Given as goal

abbrev pub invariant-loop-i : goal.invariant-loop-i
invariant-loop-i l = record {
  count : length l.leftmost.items ≡ l.i;
  items : l.leftmost.items ≡ take l.i (drop 4 l.words);
  pages : AreNumbers l.most l.leftmost.items;
}
