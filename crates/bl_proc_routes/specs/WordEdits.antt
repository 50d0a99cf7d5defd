-- The words of a page whose pairs are others.
use Rattle.std.specs.Prelude.{◌≡◌, ◌≢◌, ℕ, ◌+◌, ◌*◌, ◌<◌, ◌≤◌, List, [], length, slice_index}
use Rattle.bl_page.specs.declared.page.Page.{Page}
use Rattle.bl_page.specs.declared.page.Page.TheVariants.{Anchor, Leaf, Inner, Dead}
use Rattle.bl_page.specs.Words.{head, layout, entries_of}

-- the words of a leaf or an inner page with these pairs in place of its own
abbrev pub words_by : Page → List (ℕ × ℕ) → List ℕ
words_by (Anchor a) pairs = []
words_by (Leaf l) pairs = layout (head 2 0 (length pairs)) l.low l.high l.right (entries_of pairs)
words_by (Inner i) pairs = layout (head 3 i.level (length pairs)) i.low i.high i.right (entries_of pairs)
words_by (Dead d) pairs = []

-- From that place on the entries stand one pair further up, and the pair has their place. The last pair is lost.
pub record IsShiftedUp (place key word : ℕ) (old new : List ℕ) : Type 0 where
  pub below : (k : ℕ) → k < 4 + 2 * place → slice_index new k ≡ slice_index old k
  pub key_there : slice_index new (4 + 2 * place) ≡ key
  pub word_there : slice_index new (5 + 2 * place) ≡ word
  pub above : (k : ℕ) → 4 + 2 * place ≤ k → k < 30 → slice_index new (k + 2) ≡ slice_index old k

-- The pair before that place has that word in place of its own.
pub record HasValueAt (place word : ℕ) (old new : List ℕ) : Type 0 where
  pub there : slice_index new (3 + 2 * place) ≡ word
  pub others : (k : ℕ) → k < 32 → k ≢ 3 + 2 * place → slice_index new k ≡ slice_index old k

-- The pair before that place is gone, and what stood behind it stands one pair further down.
pub record IsShiftedDown (place : ℕ) (old new : List ℕ) : Type 0 where
  pub below : (k : ℕ) → k < 2 + 2 * place → slice_index new k ≡ slice_index old k
  pub above : (k : ℕ) → 2 + 2 * place ≤ k → k < 30 → slice_index new k ≡ slice_index old (k + 2)
  pub last : (k : ℕ) → 30 ≤ k → k < 32 → slice_index new k ≡ 0
