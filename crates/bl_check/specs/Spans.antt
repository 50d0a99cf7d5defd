-- Live pages and where they stand.
use Rattle.std.specs.Prelude.{◌≡◌, ℕ, List, Option, Some, None, slice_index_or, IsSomeAnd, length, []}
use Rattle.bl_page.specs.declared.page.Page.{Page}
use Rattle.bl_page.specs.Pages.{page_at}
use Rattle.bl_page.specs.declared.page.Page.TheVariants.{Anchor, Leaf, Inner, Dead}
use Rattle.bl_check.specs.declared.span.Span.{Span}

-- A live page is a leaf or an inner page. What it says of its place: its level, its bounds, and the page to its right.
abbrev pub span_of : Option Page → Option Span
span_of None = None
span_of (Some (Anchor a)) = None
span_of (Some (Leaf l)) = Some (record { level = 0; low = l.low; high = l.high; right = l.right })
span_of (Some (Inner i)) = Some (record { level = i.level; low = i.low; high = i.high; right = i.right })
span_of (Some (Dead d)) = None

abbrev pub span_at : List (Option Page) → ℕ → Option Span
span_at pages x = span_of (page_at pages x)

-- page x is live, of that level, and its low is that key
abbrev pub StandsAt : List (Option Page) → ℕ → ℕ → ℕ → Type 0
StandsAt pages x level low = IsSomeAnd (span_at pages x) (λ s. (s.level ≡ level) × (s.low ≡ low))

-- the leftmost page of each level, as page 0 lists them if it is an anchor
abbrev pub leftmost_of : Option Page → List ℕ
leftmost_of None = []
leftmost_of (Some (Anchor a)) = a.leftmost.items
leftmost_of (Some (Leaf l)) = []
leftmost_of (Some (Inner i)) = []
leftmost_of (Some (Dead d)) = []

abbrev pub roots : List (Option Page) → List ℕ
roots pages = leftmost_of (page_at pages 0)

abbrev pub levels : List (Option Page) → ℕ
levels pages = length (roots pages)

abbrev pub leftmost : List (Option Page) → ℕ → ℕ
leftmost pages level = slice_index_or (roots pages) level 0
