-- An index that was just made.
use Rattle.std.specs.Prelude.{◌≡◌, ◌⊎◌, ℕ, zero, suc, ◌+◌, ◌^◌, ◌<◌, ◌≤◌, Option, List, [], ◌∷◌, length, replicate}
use mathlib.Core.Option.{some}
use lib.ListN.{get_elem?}
use Rattle.atomic_table.specs.Seated.{TableId}
use Rattle.bl_layout.specs.declared.layout.Layout.{Layout}
use Rattle.bl_model.specs.Map.{SameMap}
use Rattle.bl_model.specs.Rows.{map_of}
use Rattle.bl_page.specs.declared.page.Page.{Page}
use Rattle.bl_page.specs.declared.page.Page.TheVariants.{Anchor, Leaf, Inner, Dead}
use Rattle.bl_page.specs.Words.{words_of}
use Rattle.bl_store_rule.specs.Frames.{share}
use Rattle.bl_store.specs.declared.store.Hand.{Hand}
use Rattle.bl_index_rule.specs.declared.known.PassState.{PassState}
use Rattle.bl_check.specs.Rows.{AreRowsOf}
use Rattle.bl_claims.specs.Seeing.{first_map, IsSeen}
use Rattle.bl_index_rule.specs.Simulation.{beginner}
use Rattle.bl_index.specs.declared.config.Config.{Config}
use Rattle.bl_index.specs.declared.config.OpenFault.{OpenFault}
use Rattle.bl_index.specs.declared.config.OpenFault.TheVariants.{Pages, Passes, Memory}
use Rattle.bl_index.specs.declared.index.Index.{Index}
use Rattle.bl_index.specs.declared.index.Pass.{Pass}
use Rattle.bl_layout.specs.Words.{HasFrames}
use Rattle.bl_index.specs.Calls.{pages_of, passes_of, frames_of, first_of, IsPassOf, number_of, trail}

-- it has at least so many pages, and so many at most
abbrev pub HasPages : ℕ → ℕ → Config → Type 0
HasPages least most config = (least ≤ config.pages) × (config.pages ≤ most)

-- Why an index of that size was refused: the pages are not within these limits; they are, and the passes are not within theirs; or both
-- are, and there was no memory.
abbrev pub IsRefusalOf : ℕ → ℕ → Config → OpenFault → Type 0
IsRefusalOf least most config Pages = (config.pages < least) ⊎ (most < config.pages)
IsRefusalOf least most config Passes = HasPages least most config × ((config.passes < 1) ⊎ (64 < config.passes))
IsRefusalOf least most config Memory = HasPages least most config × ((1 ≤ config.passes) × (config.passes ≤ 64))

abbrev pub IsRefusal : Config → OpenFault → Type 0
IsRefusal config why = IsRefusalOf 4 65536 config why

-- the same of a large index
abbrev pub IsLargeRefusal : Config → OpenFault → Type 0
IsLargeRefusal config why = IsRefusalOf 4 (2 ^ 28) config why

-- The index has so many pages, and the frames that these take, and began so. There is a pass of it for each number, in their order. None has seen anything, so
-- that it stands at what the index began with.
pub record IsBegun (image : List (Option Page)) (size among : ℕ) (index : Index) (passes : List Pass) : Type 0 where
  pub pages : pages_of index ≡ size
  pub passes_are : passes_of index ≡ among
  pub frames : HasFrames size among (frames_of index)
  pub count : length passes ≡ among
  pub each : (n : ℕ) (pass : Pass) → get_elem? passes n ≡ some pass → IsPassOf index pass × (number_of pass ≡ n) × (trail pass ≡ [])
  pub first : first_of index ≡ image
  pub seen : IsSeen (first_of index) []

-- The same of an index that is opened empty.
abbrev pub IsIndexOpened : Config → Index → List Pass → Type 0
IsIndexOpened config index passes = IsBegun [] config.pages config.passes index passes

-- The same of an index that is opened from an image with so many pages, of which the image's are the first: it begins with the
-- image's pages, and with the map of the image's rows.
pub record IsReopenedIn (image : List (Option Page)) (size among : ℕ) (index : Index) (passes : List Pass) : Type 0 where
  pub begun : IsBegun image size among index passes
  pub rows : List (ℕ × ℕ)
  pub are_rows : AreRowsOf image rows
  pub map : SameMap (first_map image) (map_of rows)

-- The same with as many pages as the image.
abbrev pub IsReopened : List (Option Page) → ℕ → Index → List Pass → Type 0
IsReopened image among index passes = IsReopenedIn image (length image) among index passes

-- Why an index of so many pages was not opened from an image: they are fewer than the image's, or too many; or as above.
abbrev pub IsLargerRefusal : List (Option Page) → ℕ → ℕ → OpenFault → Type 0
IsLargerRefusal image pages passes why = IsRefusalOf (length image) (2 ^ 28) (record { pages = pages; passes = passes }) why

-- Why an index was not opened from an image: the passes are not within their limits; or they are, and there was no memory.
abbrev pub IsImageRefusal : ℕ → OpenFault → Type 0
IsImageRefusal passes Pages = ⊥
IsImageRefusal passes Passes = (passes < 1) ⊎ (64 < passes)
IsImageRefusal passes Memory = (1 ≤ passes) × (passes ≤ 64)

-- the anchor of one level, whose page is page 1
abbrev pub IsFirstAnchor : Page → Type 0
IsFirstAnchor (Anchor a) = a.leftmost.items ≡ 1 ∷ []
IsFirstAnchor (Leaf l) = ⊥
IsFirstAnchor (Inner i) = ⊥
IsFirstAnchor (Dead d) = ⊥

-- a leaf without bounds, link and rows
abbrev pub IsFirstLeaf : Page → Type 0
IsFirstLeaf (Anchor a) = ⊥
IsFirstLeaf (Leaf l) = (l.low ≡ 0) × (l.high ≡ 0) × (l.right ≡ 0) × (l.rows.items ≡ [])
IsFirstLeaf (Inner i) = ⊥
IsFirstLeaf (Dead d) = ⊥

-- the words of the pages of an opening index
abbrev pub IsFirst : ℕ → List ℕ → Type 0
IsFirst zero words = (c : Page) × IsFirstAnchor c × (words ≡ words_of c)
IsFirst (suc zero) words = (c : Page) × IsFirstLeaf c × (words ≡ words_of c)
IsFirst (suc (suc x)) words = words ≡ replicate 32 0

-- a hand of that number that has done nothing, of an index that began so
abbrev pub IsNewHand : TableId → Layout → List (Option Page) → ℕ → Hand PassState → Type 0
IsNewHand table layout first n hand = (hand.number ≡ n) × (hand.seat.table_id ≡ table) × (hand.seat.me.0 ≡ share layout (beginner first) n (n + 1))

-- these hands have done nothing, and are numbered from that number on
abbrev pub AreNew : TableId → Layout → List (Option Page) → ℕ → List (Hand PassState) → Type 0
AreNew table layout first least hands = (j : ℕ) (hand : Hand PassState) → get_elem? hands j ≡ some hand → IsNewHand table layout first (least + j) hand

-- the words of the pages of an opening index of so many pages
pub record AreFirst (many : ℕ) (contents : List (List ℕ)) : Type 0 where
  pub count : length contents ≡ many
  pub each : (x : ℕ) (words : List ℕ) → get_elem? contents x ≡ some words → IsFirst x words

-- so many passes whose hands have done nothing, in the order of their numbers
pub record ArePasses (table : TableId) (layout : Layout) (first : List (Option Page)) (many : ℕ) (passes : List Pass) : Type 0 where
  pub count : length passes ≡ many
  pub each : (n : ℕ) (pass : Pass) → get_elem? passes n ≡ some pass → IsNewHand table layout first n pass.hand
