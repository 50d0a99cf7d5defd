use Rattle.std.proofs.Common.{◌≡◌, ℕ, ◌+◌, ◌*◌, ◌<◌, ◌≤◌, length, get_or}
use Rattle.bl_index_edit.proofs.halves.spread_entries.Given as goal

abbrev pub invariant-loop-i : goal.invariant-loop-i
invariant-loop-i l = record {
  long : length l.entries ≡ 30;
  read : (k : ℕ) → k < l.i → get_or l.entries k 0 ≡ get_or l.words (4 + k) 0;
}

abbrev pub invariant-loop-j : goal.invariant-loop-j
invariant-loop-j l = record {
  long : length l.entries ≡ 30;
  read : (k : ℕ) → k < 2 * l.place → get_or l.entries k 0 ≡ get_or l.words (4 + k) 0;
  key_there : get_or l.entries (2 * l.place) 0 ≡ l.key;
  word_there : get_or l.entries (1 + 2 * l.place) 0 ≡ l.word;
  moved : (k : ℕ) → 2 * l.place ≤ k → k < l.j → get_or l.entries (k + 2) 0 ≡ get_or l.words (4 + k) 0;
}
