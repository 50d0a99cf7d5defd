-- What becomes of a page when pairs come and go.
use Rattle.std.specs.Prelude.{◌≡◌, ◌≢◌, ℕ, ◌+◌, ◌<◌, ◌≤◌, List, [], length, IsSome}
use Rattle.bl_model.specs.Map.{with_pair, without_key, SameMap}
use Rattle.bl_model.specs.Rows.{map_of}
use Rattle.bl_page.specs.declared.page.Page.{Page}
use Rattle.bl_page.specs.declared.page.Page.TheVariants.{Anchor, Leaf, Inner, Dead}
use Rattle.bl_page.specs.Pairs.{BeginsWith, IsChild}
use Rattle.bl_rearrange.specs.declared.fitted.Fitted.{Fitted}
use Rattle.bl_rearrange.specs.declared.fitted.Fitted.TheVariants.{Fits, Split}

-- the rows of a leaf, or the children of an inner page
abbrev pub pairs_of : Page → List (ℕ × ℕ)
pairs_of (Anchor a) = []
pairs_of (Leaf l) = l.rows.items
pairs_of (Inner i) = i.children.items
pairs_of (Dead d) = []

-- A leaf with these bounds and this link, or an inner page of the level of the old one.
abbrev pub IsNow : ℕ → ℕ → ℕ → Page → Page → Type 0
IsNow low high right (Leaf old) (Leaf new) = (new.low ≡ low) × (new.high ≡ high) × (new.right ≡ right)
IsNow low high right (Inner old) (Inner new) = (new.level ≡ old.level) × (new.low ≡ low) × (new.high ≡ high) × (new.right ≡ right)
IsNow low high right old new = ⊥

abbrev pub low_of : Page → ℕ
low_of (Anchor a) = 0
low_of (Leaf l) = l.low
low_of (Inner i) = i.low
low_of (Dead d) = d.low

abbrev pub high_of : Page → ℕ
high_of (Anchor a) = 0
high_of (Leaf l) = l.high
high_of (Inner i) = i.high
high_of (Dead d) = 0

abbrev pub right_of : Page → ℕ
right_of (Anchor a) = 0
right_of (Leaf l) = l.right
right_of (Inner i) = i.right
right_of (Dead d) = d.right

-- Kind, level, bounds and link are kept.
abbrev pub KeepsFrame : Page → Page → Type 0
KeepsFrame old new = IsNow (low_of old) (high_of old) (right_of old) old new

-- The word may stand with a key in such a page: in an inner page it is a child's number.
abbrev pub MayHold : Page → ℕ → Type 0
MayHold (Inner i) word = IsChild word
MayHold page word = Unit {0}

-- The page may lose the pair with the key: an inner page keeps its first one.
abbrev pub MayLose : Page → ℕ → Type 0
MayLose (Inner i) key = key ≢ i.low
MayLose page key = Unit {0}

-- The page is without the key, and nothing else in it has changed.
pub record IsWithout (page : Page) (key : ℕ) (new : Page) : Type 0 where
  pub frame : KeepsFrame page new
  pub count : IsSome (map_of (pairs_of page) key) → length (pairs_of new) + 1 ≡ length (pairs_of page)
  pub pairs : SameMap (without_key (map_of (pairs_of page)) key) (map_of (pairs_of new))

-- The key, which the page lists, has that word in it, and nothing else in the page has changed.
pub record IsWithValue (page : Page) (key word : ℕ) (new : Page) : Type 0 where
  pub frame : KeepsFrame page new
  pub count : length (pairs_of new) ≡ length (pairs_of page)
  pub pairs : SameMap (with_pair (map_of (pairs_of page)) key word) (map_of (pairs_of new))

-- What fits is in the page, beside all that was there. Of 15 pairs the lower 8 stay and the upper 7 go to the new
-- page; the key that parts them is the first of the upper ones, and above the low of the page.
abbrev pub IsFitted : Page → ℕ → ℕ → ℕ → Fitted → Type 0
IsFitted page key word new_page (Fits new) =
    (length (pairs_of page) < 14) × KeepsFrame page new × SameMap (with_pair (map_of (pairs_of page)) key word) (map_of (pairs_of new))
IsFitted page key word new_page (Split left right separator) =
    (14 ≤ length (pairs_of page)) × (length (pairs_of left) ≡ 8) × (length (pairs_of right) ≡ 7)
    × IsNow (low_of page) separator new_page page left × IsNow separator (high_of page) (right_of page) page right
    × BeginsWith separator (pairs_of right)
    × ((j : ℕ) → j < separator → map_of (pairs_of left) j ≡ with_pair (map_of (pairs_of page)) key word j)
    × ((j : ℕ) → separator ≤ j → map_of (pairs_of right) j ≡ with_pair (map_of (pairs_of page)) key word j)
    × (low_of page < separator)
