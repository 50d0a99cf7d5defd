use Rattle.std.proofs.Common.{◌≡◌, ℕ, ◌<◌, length, get_or}
use Rattle.bl_page.proofs.source.words_from.Given as goal

abbrev pub invariant-loop-place : goal.invariant-loop-place
invariant-loop-place g l = record {
  hand : l.hand ≡ l.fn.hand;
  long : length l.words ≡ 32;
  read : (k : ℕ) → k < l.place → get_or l.words k 0 ≡ get_or (g.W.Words.shown l.fn.source l.fn.hand) k 0;
}
