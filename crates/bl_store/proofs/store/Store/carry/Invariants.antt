use Rattle.std.proofs.Common.{◌≡◌, ℕ, ◌+◌, ◌*◌, ◌<◌, ◌≤◌, get_or}
use Rattle.bl_store.specs.Drafts.{draft_words, other_drafts, HasDraft}
use Rattle.bl_store.specs.Hands.{IsQuiet, IsSameReading, read_words}
use Rattle.bl_store.proofs.store.Store.carry.Given as goal

abbrev pub invariant-loop-pair : goal.invariant-loop-pair
invariant-loop-pair g l = record {
  same : IsQuiet l.fn.hand.seat l.hand.seat;
  reads : IsSameReading l.fn.hand.seat l.hand.seat;
  draft : HasDraft l.hand.seat l.fn.frame (l.fn.from + 2 * l.pair);
  others : other_drafts l.hand.seat ≡ other_drafts l.fn.hand.seat;
  kept : (k : ℕ) → k < l.fn.from → get_or (draft_words l.hand.seat) k 0 ≡ get_or (draft_words l.fn.hand.seat) k 0;
  carried : (k : ℕ) → l.fn.from ≤ k → k < l.fn.from + 2 * l.pair → get_or (draft_words l.hand.seat) k 0 ≡ get_or (read_words l.fn.hand.seat) k 0;
}
