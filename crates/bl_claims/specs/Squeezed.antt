-- What the answers of a compression mean, told of what its process has done from the latch of the parent on.
use Rattle.std.specs.Prelude.{◌≡◌, ◌≢◌, ◌⊎◌, ◌↔◌, ℕ, ◌+◌, ◌/◌, ◌<◌, ◌≤◌, ◌==◌, ◌&&◌, not, nat_lt, if◌then◌else◌}
use Rattle.std.specs.Prelude.{◌++◌, Option, None, Some, List, [], ◌∷◌, length, flat_map}
use Rattle.bl_model.specs.Map.{Map, with_pair, without_key, SameMap}
use Rattle.bl_model.specs.Rows.{key_at, map_of}
use Rattle.bl_model.specs.declared.operation.Reply.{Reply}
use Rattle.bl_page.specs.declared.page.Page.{Page}
use Rattle.bl_page.specs.declared.page.Page.TheVariants.{Anchor, Inner}
use Rattle.bl_page.specs.declared.page.Anchor.{Anchor as AnchorPage}
use Rattle.bl_page.specs.declared.page.Inner.{Inner as InnerPage}
use Rattle.bl_page.specs.Machine.{Act}
use Rattle.bl_page.specs.Machine.Act.{Get, Put, Latch, Retire, Miss}
use Rattle.bl_page.specs.declared.machine.Missed.TheVariants as missed
use Rattle.bl_rearrange.specs.Rearranged.{pairs_of, high_of}
use Rattle.bl_rearrange.specs.declared.sides.Evened.{Evened}
use Rattle.bl_rearrange.specs.declared.sides.Side.{Side}
use Rattle.bl_rearrange.specs.declared.sides.Side.TheVariants as side
use Rattle.bl_page.specs.Nodes.{Shape, Covers, node_of}
use Rattle.bl_claims.specs.Trails.{Mark, Trail}
use Rattle.bl_claims.specs.Meanings.{HasGot, writes_of, Unwritten}
use Rattle.bl_answers.specs.declared.answers.Hint.{Hint}
use Rattle.bl_answers.specs.declared.answers.Hint.TheVariants as post
use Rattle.bl_answers.specs.declared.answers.Squeezed.{Squeezed}
use Rattle.bl_answers.specs.declared.answers.Squeezed.TheVariants as squeezed
use Rattle.bl_rearrange.specs.declared.families.Siblings.{Siblings}
use Rattle.bl_rearrange.specs.declared.families.Family.{Family}

-- what was done, in its order; what was missed is left out
abbrev pub acts_in : Act Page Reply → List (Act Page Reply)
acts_in (Miss what) = []
acts_in act = act ∷ []

abbrev pub acts_of : Trail → List (Act Page Reply)
acts_of marks = flat_map (λ (m : Mark). acts_in m.event.act) marks

-- page x was latched when nothing had been written yet, and this is all that was done since
pub record Since (marks : Trail) (x : ℕ) (acts : List (Act Page Reply)) : Type 0 where
  pub before : Trail
  pub first : Unwritten before
  pub latch : Mark
  pub during : Trail
  pub split : marks ≡ before ++ latch ∷ during
  pub latched : latch.event.act ≡ Latch x
  pub acts_are : acts_of during ≡ acts

-- The parent lists these two children side by side, the left one at or below the key, and the right one above it, if it is not the
-- last; or it has no two.
abbrev pub AreBeside : ℕ → InnerPage → Option Family → Type 0
AreBeside key parent None = length parent.children.items < 2
AreBeside key parent (Some f) = (before after : List (ℕ × ℕ)) × (low : ℕ)
    × (parent.children.items ≡ before ++ (low, f.at.left) ∷ (f.key, f.at.right) ∷ after) × (low ≤ key) × ((key < f.key) ⊎ (after ≡ []))

-- The parent of that level, which covers the key, was latched and got, and these are two children of it that stand side by
-- side at the key; or it has no two.
pub record GotParent (level key : ℕ) (marks : Trail) (x : ℕ) (parent : InnerPage) (children : Option Family) (acts : List (Act Page Reply)) : Type 0 where
  pub since : Since marks x acts
  pub got : HasGot since.during x (Inner parent)
  pub level_is : parent.level ≡ level
  pub covers : Covers (node_of (Inner parent)).shape key
  pub siblings : AreBeside key parent children

-- The left child was got, and these are all acts since the latch of the parent.
pub record GotLeft (level key : ℕ) (marks : Trail) (acts : Siblings → List (Act Page Reply)) : Type 0 where
  pub family : Family
  pub at : GotParent level key marks family.at.parent family.parent (Some family) (acts family.at)
  pub left : Page
  pub got : HasGot at.since.during family.at.left left

-- The right one begins where the left one ends, on the same level, and both cover some keys.
abbrev pub Adjoin : Shape → Shape → Type 0
Adjoin left right = (right.level ≡ left.level) × (left.low < left.end) × (right.low ≡ left.end) × (right.low < right.end)

-- Both children were latched and got, which are neighbours, and since then more was done.
pub record GotBoth (level key : ℕ) (marks : Trail) (more : Siblings → List (Act Page Reply)) : Type 0 where
  pub first : GotLeft level key marks (λ at. Get at.parent ∷ Latch at.left ∷ Get at.left ∷ Latch at.right ∷ Get at.right ∷ more at)
  pub right : Page
  pub got : HasGot first.at.since.during first.family.at.right right
  pub neighbours : Adjoin (node_of first.left).shape (node_of right).shape

-- the puts of an evening: the child that gains is put, then the parent, then the other child
abbrev pub evened_puts : Side → Evened → Page → Siblings → List (Act Page Reply)
evened_puts side.Left now parent at = Put at.left now.left ∷ Put at.parent parent ∷ Put at.right now.right ∷ []
evened_puts side.Right now parent at = Put at.right now.right ∷ Put at.parent parent ∷ Put at.left now.left ∷ []

-- The parent is as it was, but for the children that it lists.
abbrev pub NowLists : InnerPage → Map → Page → Type 0
NowLists parent look page = ((node_of page).shape ≡ (node_of (Inner parent)).shape) × SameMap look (node_of page).look

-- What a merge of two children puts: the left one, which covers what both covered and lists the pairs of both; the parent without the
-- right one; and the right one dead, which leads to the left one.
pub record IsMergeOf (f : Family) (left right merged parent dead : Page) : Type 0 where
  pub covers : (node_of merged).shape ≡ record (node_of left).shape { end = (node_of right).shape.end; right = (node_of right).shape.right }
  pub pairs : pairs_of merged ≡ pairs_of left ++ pairs_of right
  pub parent_is : NowLists f.parent (without_key (map_of f.parent.children.items) f.key) parent
  pub dead_is : (node_of dead).shape ≡ record (node_of right).shape { end = 0; right = f.at.left }

-- What an evening of two children puts, of which one has few pairs, and which one page could not hold. Both list together what they
-- listed, the left one the half of it, rounded up. The right one covers from its first key on, and the left one up to it; the left one
-- gains where that bound has not gone down. The parent lists the right one by the bound, by which it listed no other child.
pub record IsEveningOf (f : Family) (left right : Page) (now : Evened) (parent : Page) : Type 0 where
  pub past : 14 < length (pairs_of left) + length (pairs_of right)
  pub few : (length (pairs_of left) < 7) ⊎ (length (pairs_of right) < 7)
  pub pairs : pairs_of now.left ++ pairs_of now.right ≡ pairs_of left ++ pairs_of right
  pub half : length (pairs_of now.left) ≡ (length (pairs_of left) + length (pairs_of right) + 1) / 2
  pub separator : key_at (pairs_of now.right) 0 ≡ now.separator
  pub left_covers : (node_of now.left).shape ≡ record (node_of left).shape { end = now.separator }
  pub right_covers : (node_of now.right).shape ≡ record (node_of right).shape { low = now.separator }
  pub gains : (now.gains ≡ side.Left) ↔ ((node_of right).shape.low ≤ now.separator)
  pub unlisted : without_key (map_of f.parent.children.items) f.key now.separator ≡ None
  pub parent_is : NowLists f.parent (with_pair (without_key (map_of f.parent.children.items) f.key) now.separator f.at.right) parent

-- At some moment this was done, and nothing was written since.
pub record Once (marks : Trail) (Then : Trail → Type 0) : Type 0 where
  pub until : Trail
  pub after : Trail
  pub split : marks ≡ until ++ after
  pub no_more : writes_of after ≡ []
  pub is : Then until

-- the hint that a page has few pairs, for its parent of that level, if it has, and is not alone on its level; else the next one
abbrev pub thin_or : ℕ → Page → Option Hint → Option Hint
thin_or level c next =
    if nat_lt (length (pairs_of c)) 7 && not (((node_of c).shape.low == 0) && (high_of c == 0)) then Some (post.Thin level (node_of c).shape.low) else next

-- Merged: the left child was put, then the parent, then the right child, which was retired, all as a merge of the children that were
-- got puts them. The hint is of the parent, if it is thin, or else of the left child.
pub record HasMerged (level key : ℕ) (hint : Option Hint) (marks : Trail) : Type 0 where
  pub merged : Page
  pub parent : Page
  pub dead : Page
  pub both : GotBoth level key marks (λ at. Put at.left merged ∷ Put at.parent parent ∷ Put at.right dead ∷ Retire at.right ∷ [])
  pub merge : IsMergeOf both.first.family both.first.left both.right merged parent dead
  pub hint_is : hint ≡ thin_or (level + 1) parent (thin_or level merged None)

-- Evened: all three pages were put as an evening of the children that were got puts them.
pub record HasEvened (level key : ℕ) (marks : Trail) : Type 0 where
  pub now : Evened
  pub parent : Page
  pub both : GotBoth level key marks (evened_puts now.gains now parent)
  pub evening : IsEveningOf both.first.family both.first.left both.right now parent

-- Enough: both children were got; one page could not hold their pairs, and neither has few.
pub record HasEnough (level key : ℕ) (marks : Trail) : Type 0 where
  pub both : GotBoth level key marks (λ at. [])
  pub past : 14 < length (pairs_of both.first.left) + length (pairs_of both.right)
  pub many : (7 ≤ length (pairs_of both.first.left)) × (7 ≤ length (pairs_of both.right))

-- Unposted: the left child was got, and does not link to the right one. The hint is to list the page between, by its low.
pub record HasUnposted (level key : ℕ) (hint : Hint) (marks : Trail) : Type 0 where
  pub first : GotLeft level key marks (λ at. Get at.parent ∷ Latch at.left ∷ Get at.left ∷ [])
  pub between : (node_of first.left).shape.right ≢ first.family.at.right
  pub hint_is : hint ≡ post.Post level (high_of first.left)

-- Alone: nothing was written, and the anchor that was got names no such level, or the parent was got and has one child.
pub record HasNoLevel (level : ℕ) (marks : Trail) : Type 0 where
  pub first : Unwritten marks
  pub anchor : Page
  pub got : HasGot marks 0 anchor
  pub few : (a : AnchorPage) → anchor ≡ Anchor a → length a.leftmost.items ≤ level

abbrev pub HasOneChild : ℕ → ℕ → Trail → Type 0
HasOneChild level key marks = (x : ℕ) × (parent : InnerPage) × GotParent level key marks x parent None (Get x ∷ [])

-- NoRoom: both children were got, and are to be merged or evened out; and next a reservation was refused.
pub record LacksPlace (level key : ℕ) (marks : Trail) : Type 0 where
  pub until : Trail
  pub mark : Mark
  pub split : marks ≡ until ++ mark ∷ []
  pub refused : mark.event.act ≡ Miss missed.Reservation
  pub both : GotBoth level key until (λ at. [])
  pub due : ((merged : Page) × (parent : Page) × (dead : Page) × IsMergeOf both.first.family both.first.left both.right merged parent dead)
      ⊎ ((now : Evened) × (parent : Page) × IsEveningOf both.first.family both.first.left both.right now parent)

-- What each answer means with the hint beside it. Merged alone may have one or not, and Unposted has one.
abbrev pub MeansSqueezed : ℕ → ℕ → Squeezed → Option Hint → Trail → Type 0
MeansSqueezed level key squeezed.Merged hint marks = Once marks (HasMerged level key hint)
MeansSqueezed level key squeezed.Evened hint marks = Once marks (HasEvened level key) × (hint ≡ None)
MeansSqueezed level key squeezed.Enough hint marks = Once marks (HasEnough level key) × (hint ≡ None)
MeansSqueezed level key squeezed.Alone hint marks = Once marks (λ ms. HasNoLevel level ms ⊎ HasOneChild level key ms) × (hint ≡ None)
MeansSqueezed level key squeezed.Unposted hint marks = (h : Hint) × (hint ≡ Some h) × Once marks (HasUnposted level key h)
MeansSqueezed level key squeezed.NoRoom hint marks = Once marks (LacksPlace level key) × (hint ≡ None)
