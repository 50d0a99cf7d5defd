-- What a hand has written into the frame that it reserved last.
use Rattle.std.specs.Prelude.{◌≡◌, ℕ, ◌+◌, ◌<◌, ◌≤◌, List, [], ◌∷◌, length, slice_index}
use Rattle.atomic_table.specs.declared.shared.Seat.{Seat}
use Rattle.bl_store_rule.specs.Observed.{draft}
use Rattle.bl_store.specs.declared.put.Splice.{Splice}
use Rattle.bl_store_rule.specs.declared.view.Draft.{Draft}
use Rattle.bl_store_rule.specs.declared.view.View.{View}

abbrev pub first_words : List Draft → List ℕ
first_words [] = []
first_words (d ∷ ds) = d.words

abbrev pub behind_first : List Draft → List Draft
behind_first [] = []
behind_first (d ∷ ds) = ds

module _ {D : Type 0} where
  -- the words that it has written there
  abbrev pub draft_words : Seat (Unit {0}) (View D) → List ℕ
  draft_words h = first_words h.me.0.stock

  -- its other frames
  abbrev pub other_drafts : Seat (Unit {0}) (View D) → List Draft
  other_drafts h = behind_first h.me.0.stock

  -- that frame is the one, and has so many words
  abbrev pub HasDraft : Seat (Unit {0}) (View D) → ℕ → ℕ → Type 0
  HasDraft h frame many = (h.me.0.stock ≡ draft frame (draft_words h) ∷ other_drafts h) × (length (draft_words h) ≡ many)

-- New words are the old ones but for the first, with two words at word `at`. The old ones from there on stand two words further
-- up, and the last two are lost.
pub record IsSplice (change : Splice) (old new : List ℕ) : Type 0 where
  pub size : length new ≡ 32
  pub head : slice_index new 0 ≡ change.head
  pub below : (k : ℕ) → 0 < k → k < change.at → slice_index new k ≡ slice_index old k
  pub one_there : slice_index new change.at ≡ slice_index change.words 0
  pub two_there : slice_index new (change.at + 1) ≡ slice_index change.words 1
  pub above : (k : ℕ) → change.at ≤ k → k < 30 → slice_index new (k + 2) ≡ slice_index old k
