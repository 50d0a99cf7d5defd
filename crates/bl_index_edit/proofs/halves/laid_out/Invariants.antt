use Rattle.std.proofs.Common.{◌≡◌, ℕ, ◌+◌, ◌<◌, ◌≤◌, length, get_or}
use Rattle.bl_index_edit.proofs.halves.laid_out.Given as goal

abbrev pub invariant-loop-i : goal.invariant-loop-i
invariant-loop-i l = record {
  long : length l.words ≡ 32;
  first : get_or l.words 0 0 ≡ l.first;
  low : get_or l.words 1 0 ≡ l.low;
  high : get_or l.words 2 0 ≡ l.high;
  right : get_or l.words 3 0 ≡ l.right;
  read : (k : ℕ) → k < l.i → get_or l.words (4 + k) 0 ≡ get_or l.entries k 0;
  rest : (k : ℕ) → l.i ≤ k → k < 28 → get_or l.words (4 + k) 0 ≡ 0;
}
