-- The compression of two neighbouring children of a parent that a process holds and has got.
use Rattle.std.specs.Prelude.{◌≡◌, ◌≢◌, ◌⊎◌, ℕ, ◌+◌, ◌-◌, ◌<◌, ◌≤◌, nat_lt, if◌then◌else◌, List, length, get_or, Bool, true, false, Option, None, Some}
use Rattle.bl_page.specs.declared.page.Page.{Page}
use Rattle.bl_page.specs.declared.page.Page.TheVariants.{Inner as InnerPage, Dead}
use Rattle.bl_page.specs.declared.page.Inner.{Inner}
use Rattle.bl_page.specs.Pairs.{IsWithin, place}
use Rattle.bl_model.specs.Rows.{map_of}
use Rattle.bl_rearrange.specs.Rearranged.{IsFitted, IsWithout, pairs_of, low_of, high_of, right_of}
use Rattle.bl_rearrange.specs.Neighbours.{AreNeighbours, together, IsMerged, IsEvened}
use Rattle.bl_rearrange.specs.declared.fitted.Fitted.TheVariants.{Fits}
use Rattle.bl_rearrange.specs.declared.sides.Evened.{Evened}
use Rattle.bl_rearrange.specs.declared.sides.Side.{Side}
use Rattle.bl_rearrange.specs.declared.sides.Side.TheVariants as side
use Rattle.bl_page.specs.Nodes.{node_of}
use Rattle.bl_proc_steps.specs.declared.acts.Action.{Action}
use Rattle.bl_proc_steps.specs.declared.acts.Action.TheVariants as act
use Rattle.bl_proc_steps.specs.declared.acts.Seen.{Seen}
use Rattle.bl_proc_steps.specs.declared.acts.Seen.TheVariants as seen
use Rattle.bl_answers.specs.declared.answers.Hint.{Hint}
use Rattle.bl_answers.specs.declared.answers.Hint.TheVariants as hint
use Rattle.bl_rearrange.specs.declared.families.Siblings.{Siblings}
use Rattle.bl_rearrange.specs.declared.families.Family.{Family}
use Rattle.bl_proc_compress.specs.declared.compression.Puts.{Puts}
use Rattle.bl_proc_compress.specs.declared.compression.Decision.{Decision}
use Rattle.bl_proc_compress.specs.declared.compression.Decision.TheVariants.{Merged, Evened as EvenedOut, Enough, Unposted, Refused, Lost}
use Rattle.bl_proc_compress.specs.declared.compression.Compression.{Compression}
use Rattle.bl_proc_compress.specs.declared.compression.Compression.TheVariants.{LatchingLeft, LatchedLeft, LatchingRight, LatchedRight, PuttingFirst, PuttingParent, PuttingLast, Retiring, OpeningRight, OpeningLeft, OpeningParent}
use Rattle.bl_proc_compress.specs.declared.compression.Compressed.{Compressed}
use Rattle.bl_proc_compress.specs.declared.compression.Compressed.TheVariants.{On, Over}
use Rattle.bl_answers.specs.Thin.{thin_low, thin_hint}

-- The place of the right one of the two children: behind the child for the key, or that child's own where it is the last.
abbrev pub right_place : ℕ → List (ℕ × ℕ) → ℕ
right_place key pairs = if nat_lt (place key pairs) (length pairs) then place key pairs else place key pairs - 1

-- The two children of page x, which is that inner page, that stand at that place and before it.
pub record IsFamily (x key : ℕ) (parent : Inner) (f : Family) : Type 0 where
  pub parent_at : f.at.parent ≡ x
  pub parent_is : f.parent ≡ parent
  pub left : (get_or parent.children.items (right_place key parent.children.items - 1) (0, 0)).1 ≡ f.at.left
  pub right : get_or parent.children.items (right_place key parent.children.items) (0, 0) ≡ (f.key, f.at.right)

abbrev pub AreSiblings : ℕ → ℕ → Inner → Option Family → Type 0
AreSiblings x key parent None = length parent.children.items < 2
AreSiblings x key parent (Some f) = (2 ≤ length parent.children.items) × IsFamily x key parent f

-- the put of one of the two children
abbrev pub put_of : Side → Puts → Action
put_of side.Left p = act.Put p.at.left p.left
put_of side.Right p = act.Put p.at.right p.right

abbrev pub other : Side → Side
other side.Left = side.Right
other side.Right = side.Left

abbrev pub compression_next : Compression → Action
compression_next (LatchingLeft f) = act.Latch f.at.left
compression_next (LatchedLeft f) = act.Get f.at.left
compression_next (LatchingRight f c) = act.Latch f.at.right
compression_next (LatchedRight f c) = act.Get f.at.right
compression_next (PuttingFirst p) = put_of p.gains p
compression_next (PuttingParent p) = act.Put p.at.parent p.parent
compression_next (PuttingLast p) = put_of (other p.gains) p
compression_next (Retiring at decision) = act.Retire at.right
compression_next (OpeningRight at decision) = act.Open at.right
compression_next (OpeningLeft at decision) = act.Open at.left
compression_next (OpeningParent x decision) = act.Open x

-- pages and frames
abbrev pub compression_needs : Compression → Option (ℕ × ℕ)
compression_needs (LatchingLeft f) = None
compression_needs (LatchedLeft f) = None
compression_needs (LatchingRight f c) = None
compression_needs (LatchedRight f c) = None
compression_needs (PuttingFirst p) = Some (0, 3)
compression_needs (PuttingParent p) = None
compression_needs (PuttingLast p) = None
compression_needs (Retiring at decision) = None
compression_needs (OpeningRight at decision) = None
compression_needs (OpeningLeft at decision) = None
compression_needs (OpeningParent x decision) = None

-- the hint after a merge, by the parent of that level and the left child as they are put: the parent's, if it is thin
abbrev pub either_hint : Option Hint → Option Hint → Option Hint
either_hint None other = other
either_hint (Some h) other = Some h

abbrev pub merge_hint : ℕ → Page → Page → Option Hint
merge_hint level parent left = either_hint (thin_hint (level + 1) (thin_low parent)) (thin_hint level (thin_low left))

-- a page that was merged into page x
abbrev pub IsBuried : ℕ → Page → Page → Type 0
IsBuried x old (Dead d) = (d.level ≡ (node_of old).shape.level) × (d.low ≡ low_of old) × (d.right ≡ x)
IsBuried x old new = ⊥

-- A merge of the children c and d: the left one has the pairs of both, the parent does not list the right one, and the right
-- one is dead and leads to the left one.
pub record Merges (f : Family) (c d : Page) (p : Puts) : Type 0 where
  pub at : p.at ≡ f.at
  pub gains : p.gains ≡ side.Left
  pub left : IsMerged c d (Some p.left)
  pub parent : IsWithout (InnerPage f.parent) f.key p.parent
  pub right : IsBuried f.at.left d p.right
  pub decision : p.decision ≡ Merged (merge_hint f.parent.level p.parent p.left)

-- The parent lists the child by the new key in place of the old one. It does so where it covers the new key and, without the
-- old one, does not list it.
abbrev pub Relists : Inner → ℕ → ℕ → ℕ → Option Page → Type 0
Relists parent old new child (Some page) =
    (middle : Page) × IsWithout (InnerPage parent) old middle × IsFitted middle new child 0 (Fits page) × (map_of (pairs_of middle) new ≡ None)
Relists parent old new child None =
    (¬ IsWithin parent.low parent.high new) ⊎ ((middle : Page) × IsWithout (InnerPage parent) old middle × (map_of (pairs_of middle) new ≢ None))

abbrev pub IsFew : Page → Type 0
IsFew page = length (pairs_of page) < 7

-- The children c and d have more pairs than one page holds, and one of them has few.
pub record MayEven (c d : Page) : Type 0 where
  pub neighbours : AreNeighbours c d
  pub past : 14 < together c d
  pub few : IsFew c ⊎ IsFew d

-- An evening of the children c and d: the parent lists the right one by its new low.
pub record Evens (f : Family) (c d : Page) (p : Puts) : Type 0 where
  pub may : MayEven c d
  pub separator : ℕ
  pub at : p.at ≡ f.at
  pub evened : IsEvened c d (record { left = p.left; right = p.right; separator = separator; gains = p.gains })
  pub parent : Relists f.parent f.key separator f.at.right (Some p.parent)
  pub decision : p.decision ≡ EvenedOut

-- What is done with the children c and d, which are held and were got. Two neighbours are merged where one page holds all
-- their pairs, and else evened out where one of them has few.
abbrev pub Decides : Family → Page → Page → Compression → Type 0
Decides f c d (PuttingFirst p) = (AreNeighbours c d × Merges f c d p) ⊎ Evens f c d p
Decides f c d (OpeningRight at Enough) = (at ≡ f.at) × AreNeighbours c d × (14 < together c d) × (¬ IsFew c) × (¬ IsFew d)
Decides f c d (OpeningRight at Lost) =
    (at ≡ f.at) × ((¬ AreNeighbours c d) ⊎ (MayEven c d × ((e : Evened) × IsEvened c d e × Relists f.parent f.key e.separator f.at.right None)))
Decides f c d new = ⊥

-- The left child c, which is held and was got: it links to the right one, or a page stands between them.
abbrev pub Links : Family → Page → Compression → Type 0
Links f c (LatchingRight g page) = (g ≡ f) × (page ≡ c) × (right_of c ≡ f.at.right)
Links f c (OpeningLeft at decision) = (at ≡ f.at) × (right_of c ≢ f.at.right) × (decision ≡ Unposted (hint.Post f.parent.level (high_of c)))
Links f c new = ⊥

-- When all is put, a page that was merged away is retired, and else opened.
abbrev pub after_puts : Siblings → Decision → Compression
after_puts at (Merged h) = Retiring at (Merged h)
after_puts at EvenedOut = OpeningRight at EvenedOut
after_puts at Enough = OpeningRight at Enough
after_puts at (Unposted h) = OpeningRight at (Unposted h)
after_puts at Refused = OpeningRight at Refused
after_puts at Lost = OpeningRight at Lost

-- After a missed latch of a child, the process that waits tries again, and the other one opens what it holds and begins again.
abbrev pub missed_left : Bool → Family → Compression
missed_left true f = LatchingLeft f
missed_left false f = OpeningParent f.at.parent Lost

abbrev pub missed_right : Bool → Family → Page → Compression
missed_right true f c = LatchingRight f c
missed_right false f c = OpeningLeft f.at Lost

abbrev pub Compresses : Bool → Compression → Seen → Compressed → Type 0
Compresses waits (LatchingLeft f) seen.Done (On new) = new ≡ LatchedLeft f
Compresses waits (LatchingLeft f) seen.Missed (On new) = new ≡ missed_left waits f
Compresses waits (LatchedLeft f) (seen.Words c) (On new) = Links f c new
Compresses waits (LatchingRight f c) seen.Done (On new) = new ≡ LatchedRight f c
Compresses waits (LatchingRight f c) seen.Missed (On new) = new ≡ missed_right waits f c
Compresses waits (LatchedRight f c) (seen.Words d) (On new) = Decides f c d new
Compresses waits (PuttingFirst p) seen.Done (On new) = new ≡ PuttingParent p
Compresses waits (PuttingFirst p) seen.Refused (On new) = new ≡ OpeningRight p.at Refused
Compresses waits (PuttingParent p) seen.Done (On new) = new ≡ PuttingLast p
Compresses waits (PuttingLast p) seen.Done (On new) = new ≡ after_puts p.at p.decision
Compresses waits (Retiring at decision) seen.Done (On new) = new ≡ OpeningLeft at decision
Compresses waits (OpeningRight at decision) seen.Done (On new) = new ≡ OpeningLeft at decision
Compresses waits (OpeningLeft at decision) seen.Done (On new) = new ≡ OpeningParent at.parent decision
Compresses waits (OpeningParent x decision) seen.Done (Over last) = last ≡ decision
Compresses waits old what new = ⊥
