-- The rows of an image: those of the leaves, along the chain of level 0.
use Rattle.std.specs.Prelude.{◌≡◌, ◌≢◌, ℕ, List, ◌++◌, Option, Some}
use Rattle.bl_page.specs.declared.page.Leaf.{Leaf}
use Rattle.bl_page.specs.declared.page.Page.{Page}
use Rattle.bl_page.specs.declared.page.Page.TheVariants as page
use Rattle.bl_page.specs.Pages.{page_at}
use Rattle.bl_check.specs.Spans.{leftmost}

-- the rows of the leaf x, and then those of the leaves to its right; the last has no link
pub data RowsFrom (pages : List (Option Page)) : ℕ → List (ℕ × ℕ) → Type 0 where
  Last : {x : ℕ} (leaf : Leaf) → page_at pages x ≡ Some (page.Leaf leaf) → leaf.right ≡ 0 → RowsFrom pages x leaf.rows.items
  Next : {x : ℕ} {rest : List (ℕ × ℕ)} (leaf : Leaf) → page_at pages x ≡ Some (page.Leaf leaf) → leaf.right ≢ 0 → RowsFrom pages leaf.right rest
      → RowsFrom pages x (leaf.rows.items ++ rest)

-- The rows of an image begin with those of the leftmost leaf.
abbrev pub AreRowsOf : List (Option Page) → List (ℕ × ℕ) → Type 0
AreRowsOf pages rows = RowsFrom pages (leftmost pages 0) rows
