use Rattle.std.proofs.Common.{◌≡◌, ℕ, ◌+◌, ◌<◌, length, get_or}
use Rattle.std.specs.Slots.{slots_items}
use Rattle.bl_store.proofs.closing.last_words.Given as goal

abbrev pub invariant-loop-place : goal.invariant-loop-place
invariant-loop-place g l = record {
  long : length l.words ≡ 32;
  here : (k : ℕ) → k < l.place → get_or l.words k 0 ≡ get_or (slots_items l.closed.words) (l.first + k) 0;
}
