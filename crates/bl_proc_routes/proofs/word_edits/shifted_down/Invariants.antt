use Rattle.std.proofs.Common.{◌≡◌, ℕ, ◌+◌, ◌*◌, ◌<◌, ◌≤◌, length, get_or}
use Rattle.bl_proc_routes.proofs.word_edits.shifted_down.Given as goal

abbrev pub invariant-loop-i : goal.invariant-loop-i
invariant-loop-i g l = record {
  hand : l.hand ≡ l.fn.hand;
  long : length l.words ≡ 32;
  read : (k : ℕ) → k < l.i → get_or l.words k 0 ≡ get_or (g.W.Words.shown l.fn.source l.fn.hand) k 0;
}

abbrev pub invariant-loop-j : goal.invariant-loop-j
invariant-loop-j g l = record {
  hand : l.hand ≡ l.fn.hand;
  long : length l.words ≡ 32;
  read : (k : ℕ) → k < 2 + 2 * l.fn.place → get_or l.words k 0 ≡ get_or (g.W.Words.shown l.fn.source l.fn.hand) k 0;
  moved : (k : ℕ) → 2 + 2 * l.fn.place ≤ k → k < l.j → get_or l.words k 0 ≡ get_or (g.W.Words.shown l.fn.source l.fn.hand) (k + 2) 0;
}
