use Rattle.std.proofs.Common.{◌≡◌, ℕ, ◌+◌, ◌*◌, ◌<◌, ◌≤◌, length, get_or}
use Rattle.bl_proc_routes.proofs.word_edits.shifted_up.Given as goal

abbrev pub invariant-loop-i : goal.invariant-loop-i
invariant-loop-i g l = record {
  hand : l.hand ≡ l.fn.hand;
  long : length l.words ≡ 32;
  read : (k : ℕ) → k < l.i → get_or l.words k 0 ≡ get_or (g.W.Words.shown l.fn.source l.fn.hand) k 0;
}

abbrev pub invariant-loop-j : goal.invariant-loop-j
invariant-loop-j g l = record {
  hand : l.hand ≡ l.fn.hand;
  long : length l.words ≡ 32;
  read : (k : ℕ) → k < 4 + 2 * l.fn.place → get_or l.words k 0 ≡ get_or (g.W.Words.shown l.fn.source l.fn.hand) k 0;
  key_there : get_or l.words (4 + 2 * l.fn.place) 0 ≡ l.fn.key;
  word_there : get_or l.words (5 + 2 * l.fn.place) 0 ≡ l.fn.word;
  moved : (k : ℕ) → 4 + 2 * l.fn.place ≤ k → k < l.j → get_or l.words (k + 2) 0 ≡ get_or (g.W.Words.shown l.fn.source l.fn.hand) k 0;
}
