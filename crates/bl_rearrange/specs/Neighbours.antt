-- Two neighbours of a level, merged into one page or evened out.
use Rattle.std.specs.Prelude.{◌≡◌, ◌≢◌, ℕ, ◌+◌, ◌/◌, ◌<◌, ◌≤◌, ◌++◌, length, Option, Some, None}
use Rattle.bl_page.specs.declared.page.Page.{Page}
use Rattle.bl_page.specs.declared.page.Page.TheVariants.{Leaf, Inner}
use Rattle.bl_page.specs.Pairs.{BeginsWith}
use Rattle.bl_rearrange.specs.Rearranged.{IsNow, pairs_of, low_of, high_of, right_of}
use Rattle.bl_rearrange.specs.declared.sides.Side.{Side}
use Rattle.bl_rearrange.specs.declared.sides.Side.TheVariants as side
use Rattle.bl_rearrange.specs.declared.sides.Evened.{Evened}

-- Two leaves, or two inner pages of one level: the bound of the left one is the low of the right one.
abbrev pub AreNeighbours : Page → Page → Type 0
AreNeighbours (Leaf left) (Leaf right) = (left.high ≢ 0) × (right.low ≡ left.high)
AreNeighbours (Inner left) (Inner right) = (right.level ≡ left.level) × (left.high ≢ 0) × (right.low ≡ left.high)
AreNeighbours left right = ⊥

-- how many pairs two pages list together
abbrev pub together : Page → Page → ℕ
together left right = length (pairs_of left) + length (pairs_of right)

-- One page covers what both covered, has the link of the right one, and lists the pairs of the left one and then those
-- of the right one. There is no such page exactly where they are more than 14.
abbrev pub IsMerged : Page → Page → Option Page → Type 0
IsMerged left right None = 14 < together left right
IsMerged left right (Some page) =
    (together left right ≤ 14) × IsNow (low_of left) (high_of right) (right_of right) left page × (pairs_of page ≡ pairs_of left ++ pairs_of right)

-- The side that gains, where the left page had so many pairs and has so many now, and the bound between the two pages
-- has moved: the left page has lost no pair and covers no less, or the right page has more pairs and covers more.
abbrev pub Gains : Side → ℕ → ℕ → ℕ → ℕ → Type 0
Gains side.Left had has old new = (had ≤ has) × (old ≤ new)
Gains side.Right had has old new = (has < had) × (new < old)

-- Both pages list together what they listed before, in the same order: the left one the half of it, rounded up. The
-- right one lists and covers from the separator on, and the left one covers up to it. All else of both is kept.
pub record IsEvened (left right : Page) (now : Evened) : Type 0 where
  pub pairs : pairs_of now.left ++ pairs_of now.right ≡ pairs_of left ++ pairs_of right
  pub half : length (pairs_of now.left) ≡ (together left right + 1) / 2
  pub left_frame : IsNow (low_of left) now.separator (right_of left) left now.left
  pub right_frame : IsNow now.separator (high_of right) (right_of right) right now.right
  pub separator : BeginsWith now.separator (pairs_of now.right)
  pub above : low_of left < now.separator
  pub gains : Gains now.gains (length (pairs_of left)) (length (pairs_of now.left)) (low_of right) now.separator
