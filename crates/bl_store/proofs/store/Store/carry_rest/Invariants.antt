use Rattle.std.proofs.Common.{◌≡◌, ℕ, ◌+◌, ◌-◌, ◌<◌, ◌≤◌, get_or}
use Rattle.bl_store.specs.Drafts.{draft_words, other_drafts, HasDraft}
use Rattle.bl_store.specs.Hands.{IsQuiet, IsSameReading, read_words}
use Rattle.bl_store.proofs.store.Store.carry_rest.Given as goal

abbrev pub invariant-loop-at : goal.invariant-loop-at
invariant-loop-at g l = record {
  same : IsQuiet l.fn.hand.seat l.hand.seat;
  reads : IsSameReading l.fn.hand.seat l.hand.seat;
  draft : HasDraft l.hand.seat l.fn.frame l.at;
  others : other_drafts l.hand.seat ≡ other_drafts l.fn.hand.seat;
  kept : (k : ℕ) → k < l.fn.from → get_or (draft_words l.hand.seat) k 0 ≡ get_or (draft_words l.fn.hand.seat) k 0;
  carried : (k : ℕ) → l.fn.from ≤ k → k < l.at → get_or (draft_words l.hand.seat) k 0 ≡ get_or (read_words l.fn.hand.seat) (k - l.fn.from + l.fn.source) 0;
}
