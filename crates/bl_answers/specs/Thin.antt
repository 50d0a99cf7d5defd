-- Which pages have few pairs.
use Rattle.std.specs.Prelude.{ℕ, ◌==◌, nat_lt, ◌&&◌, not, if◌then◌else◌, length, Option, None, Some}
use Rattle.bl_page.specs.declared.page.Page.{Page}
use Rattle.bl_page.specs.declared.page.Page.TheVariants.{Anchor, Leaf, Inner, Dead}
use Rattle.bl_answers.specs.declared.answers.Hint.{Hint}
use Rattle.bl_answers.specs.declared.answers.Hint.TheVariants as hint

-- The low of a page with so many pairs, if it has fewer than 7 and is not alone on its level. A page that is alone there has
-- neither a low nor a bound.
abbrev pub low_if_thin : ℕ → ℕ → ℕ → Option ℕ
low_if_thin pairs low high = if nat_lt pairs 7 && not ((low == 0) && (high == 0)) then Some low else None

abbrev pub thin_low : Page → Option ℕ
thin_low (Anchor a) = None
thin_low (Leaf l) = low_if_thin (length l.rows.items) l.low l.high
thin_low (Inner i) = low_if_thin (length i.children.items) i.low i.high
thin_low (Dead d) = None

-- the hint that the page with that low has few pairs, for its parent of that level
abbrev pub thin_hint : ℕ → Option ℕ → Option Hint
thin_hint level None = None
thin_hint level (Some low) = Some (hint.Thin level low)
