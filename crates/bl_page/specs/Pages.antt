-- What a page covers, and which page stands where.
use Rattle.std.specs.Prelude.{ℕ, List, Option, None, slice_index_or}
use Rattle.bl_page.specs.declared.page.Page.{Page}
use Rattle.bl_page.specs.declared.page.Page.TheVariants.{Anchor, Leaf, Inner, Dead}
use Rattle.bl_page.specs.Pairs.{IsWithin}

-- A leaf or an inner page covers the keys within its bounds. The anchor and a dead page cover none.
abbrev pub Covers : Page → ℕ → Type 0
Covers (Anchor a) k = ⊥
Covers (Leaf l) k = IsWithin l.low l.high k
Covers (Inner i) k = IsWithin i.low i.high k
Covers (Dead d) k = ⊥

-- page x: None where it is not in use, and behind the last page
abbrev pub page_at : List (Option Page) → ℕ → Option Page
page_at pages x = slice_index_or pages x None
