-- What an image of rows is, and why there is none.
use Rattle.std.specs.List.{AllByRecursion}
use Rattle.std.specs.Prelude.{◌≡◌, ℕ, ◌+◌, ◌-◌, ◌^◌, ◌<◌, ◌≤◌, ◌⊎◌, max, List, length, take, Option, Some, None, IfSome}
use Rattle.bl_model.specs.Rows.{key_at, HasRisingKeys}
use Rattle.bl_page.specs.declared.page.Leaf.{Leaf as LeafPage}
use Rattle.bl_page.specs.declared.page.Page.{Page}
use Rattle.bl_page.specs.declared.page.Page.TheVariants.{Anchor, Leaf, Inner, Dead}
use Rattle.bl_check.specs.Rows.{AreRowsOf}
use Rattle.bl_check.specs.Spans.{span_at, levels, leftmost}
use Rattle.bl_load.specs.Sizes.{size_for, top_for}
use Rattle.bl_load.specs.declared.fault.LoadFault.{LoadFault}
use Rattle.bl_load.specs.declared.fault.LoadFault.TheVariants as fault

-- a page is that leaf, or none
abbrev pub IsLeaf : LeafPage → Option Page → Type 0
IsLeaf leaf page = page ≡ Some (Leaf leaf)

abbrev pub IsNoLeaf : Option Page → Type 0
IsNoLeaf page = (leaf : LeafPage) → ¬ IsLeaf leaf page

-- the page is the leftmost of its level, or has so many rows, or so many children, of which two are the least
abbrev pub IsFull : ℕ → Option Page → Type 0
IsFull fill None = Unit {0}
IsFull fill (Some (Anchor a)) = Unit {0}
IsFull fill (Some (Leaf l)) = (l.low ≡ 0) ⊎ (length l.rows.items ≡ fill)
IsFull fill (Some (Inner i)) = (i.low ≡ 0) ⊎ (length i.children.items ≡ max fill 2)
IsFull fill (Some (Dead d)) = Unit {0}

-- the highest level has one page: its leftmost one links to none
abbrev pub HasOneTop : List (Option Page) → Type 0
HasOneTop pages = (level : ℕ) → level + 1 ≡ levels pages → IfSome (span_at pages (leftmost pages level)) (λ s. s.right ≡ 0)

-- The pages have exactly these rows, whose keys rise, and are so full; one is the top.
pub record HoldsRows (fill : ℕ) (rows : List (ℕ × ℕ)) (pages : List (Option Page)) : Type 0 where
  pub rising : HasRisingKeys rows
  pub are_rows : AreRowsOf pages rows
  pub full : AllByRecursion (IsFull fill) pages
  pub top : HasOneTop pages

-- the first row whose key is not above the one before it stands at that place
abbrev pub FallsFirstAt : List (ℕ × ℕ) → ℕ → Type 0
FallsFirstAt rows i = (0 < i) × (i < length rows) × (key_at rows i ≤ key_at rows (i - 1)) × HasRisingKeys (take i rows)

-- There is an image of so many pages that has the rows, and is so full.
pub record IsLoadable (rows : List (ℕ × ℕ)) (pages fill : ℕ) : Type 0 where
  pub some : 4 ≤ pages
  pub most : pages ≤ 2 ^ 28
  pub fills : 1 ≤ fill
  pub fits : fill ≤ 14
  pub rising : HasRisingKeys rows
  pub levels : top_for fill (length rows) ≤ 1
  pub room : size_for fill (length rows) ≤ pages

-- Why no image of rows was made. Memory is wanted only where there is one.
abbrev pub IsFaultOf : List (ℕ × ℕ) → ℕ → ℕ → LoadFault → Type 0
IsFaultOf rows pages fill fault.Pages = (pages < 4) ⊎ (2 ^ 28 < pages)
IsFaultOf rows pages fill fault.Fill = (fill < 1) ⊎ (14 < fill)
IsFaultOf rows pages fill (fault.Order place) = FallsFirstAt rows place
IsFaultOf rows pages fill fault.Room = pages < size_for fill (length rows)
IsFaultOf rows pages fill fault.Levels = 1 < top_for fill (length rows)
IsFaultOf rows pages fill fault.Memory = IsLoadable rows pages fill
