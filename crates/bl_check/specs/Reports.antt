-- The numbers of a sound image.
use Rattle.std.specs.Prelude.{◌≡◌, ℕ, zero, suc, ◌+◌, ◌-◌, ◌==◌, nat_lt, ◌&&◌, ◌||◌, not, if◌then◌else◌, List, length, Option, Some, None, Bool, true, false}
use Rattle.std.specs.List.{sum_by, count_by, list_any}
use Rattle.bl_page.specs.declared.page.Page.{Page}
use Rattle.bl_page.specs.declared.page.Page.TheVariants.{Anchor, Leaf, Inner, Dead}
use Rattle.bl_check.specs.declared.report.Report.{Report}
use Rattle.bl_page.specs.Pages.{page_at}
use Rattle.bl_check.specs.Spans.{levels, leftmost}

-- how many pairs a leaf has
abbrev pub rows_in : Option Page → ℕ
rows_in None = 0
rows_in (Some (Anchor a)) = 0
rows_in (Some (Leaf l)) = length l.rows.items
rows_in (Some (Inner i)) = 0
rows_in (Some (Dead d)) = 0

abbrev pub is_leaf : Option Page → Bool
is_leaf None = false
is_leaf (Some (Anchor a)) = false
is_leaf (Some (Leaf l)) = true
is_leaf (Some (Inner i)) = false
is_leaf (Some (Dead d)) = false

abbrev pub is_inner : Option Page → Bool
is_inner None = false
is_inner (Some (Anchor a)) = false
is_inner (Some (Leaf l)) = false
is_inner (Some (Inner i)) = true
is_inner (Some (Dead d)) = false

-- fewer than 7 pairs, and not alone on its level: a page alone there has neither a low nor a bound
abbrev pub is_thin : Option Page → Bool
is_thin None = false
is_thin (Some (Anchor a)) = false
is_thin (Some (Leaf l)) = nat_lt (length l.rows.items) 7 && not ((l.low == 0) && (l.high == 0))
is_thin (Some (Inner i)) = nat_lt (length i.children.items) 7 && not ((i.low == 0) && (i.high == 0))
is_thin (Some (Dead d)) = false

-- the page is an inner page, and one of its pairs names page x
abbrev pub lists : ℕ → Option Page → Bool
lists x None = false
lists x (Some (Anchor a)) = false
lists x (Some (Leaf l)) = false
lists x (Some (Inner i)) = list_any (λ pair. pair.1 == x) i.children.items
lists x (Some (Dead d)) = false

-- the leftmost page of the top level
abbrev pub top : List (Option Page) → ℕ
top pages = leftmost pages (levels pages - 1)

-- page x is live, no inner page lists it, and it is not the leftmost page of the top level
abbrev pub is_unposted : List (Option Page) → ℕ → Bool
is_unposted pages x = (is_leaf (page_at pages x) || is_inner (page_at pages x)) && not (list_any (lists x) pages) && not (x == top pages)

-- how many numbers below n pass
abbrev pub count_below : (ℕ → Bool) → ℕ → ℕ
count_below p zero = 0
count_below p (suc n) = count_below p n + (if p n then 1 else 0)

pub record IsReport (report : Report) (pages : List (Option Page)) : Type 0 where
  pub rows : report.rows ≡ sum_by rows_in pages
  pub leaves : report.leaves ≡ count_by is_leaf pages
  pub inners : report.inners ≡ count_by is_inner pages
  pub levels_are : report.levels ≡ levels pages
  pub unposted : report.unposted ≡ count_below (is_unposted pages) (length pages)
  pub thin : report.thin ≡ count_by is_thin pages
