-- The words of a full page that is split, with a pair more.
use Rattle.std.specs.Prelude.{◌≡◌, ℕ, ◌+◌, ◌*◌, ◌-◌, ◌<◌, ◌≤◌, List, slice_index, take, drop}
use Rattle.bl_page.specs.Words.{layout, words_of}
use Rattle.bl_page.specs.declared.page.Page.{Page}

-- The entries of the words, with a pair at that place among them.
pub record AreSpread (place key word : ℕ) (words entries : List ℕ) : Type 0 where
  pub below : (k : ℕ) → k < 2 * place → slice_index entries k ≡ slice_index words (4 + k)
  pub key_there : slice_index entries (2 * place) ≡ key
  pub word_there : slice_index entries (1 + 2 * place) ≡ word
  pub above : (k : ℕ) → 2 * place ≤ k → k < 28 → slice_index entries (k + 2) ≡ slice_index words (4 + k)

-- The page with these words is split so, with a pair more among those entries: of 15 pairs the lower 8 stay, and the others
-- go to the new page.
pub record AreHalvesOf (new : ℕ) (words entries : List ℕ) (left right : Page) : Type 0 where
  pub lower : words_of left ≡ layout (slice_index words 0 - 6) (slice_index words 1) (slice_index entries 16) new (take 16 entries)
  pub upper : words_of right ≡ layout (slice_index words 0 - 7) (slice_index entries 16) (slice_index words 2) (slice_index words 3) (drop 16 entries)
