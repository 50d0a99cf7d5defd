-- What a page says of the tree. A leaf and an inner page are nodes of one kind, so that all levels have the same laws.
use Rattle.std.specs.Prelude.{ℕ, ◌^◌, ◌<◌, ◌≤◌, None, length, get_or, ◌≡◌, Some}
use Rattle.bl_model.specs.Map.{Map}
use Rattle.bl_page.specs.declared.page.Page.{Page}
use Rattle.bl_page.specs.declared.page.Page.TheVariants.{Anchor, Leaf, Inner, Dead}
use Rattle.bl_model.specs.Rows.{map_of}
use Rattle.bl_page.specs.Pairs.{end_of}

-- the end of a page without an upper bound, above every key
abbrev pub unbounded : ℕ
unbounded = 2 ^ 64

-- A page's level, its bounds, and the page to its right. It covers the keys from low up to, but without, end.
pub record Shape : Type 0 where
  pub level : ℕ
  pub low : ℕ
  pub end : ℕ
  pub right : ℕ

-- A page, with what it lists with each key: on level 0 a leaf, which lists values; above it an inner page, which lists children one
-- level lower.
pub record Node : Type 0 where
  pub shape : Shape
  pub look : Map

abbrev pub Covers : Shape → ℕ → Type 0
Covers s k = (s.low ≤ k) × (k < s.end)

-- Page 0: the number of levels, and the leftmost page of each.
pub record Roots : Type 0 where
  pub levels : ℕ
  pub leftmost : ℕ → ℕ

-- The child of a key: the one listed with the greatest key that is not above it.
pub record IsChildOf (look : Map) (k c : ℕ) : Type 0 where
  pub key : ℕ
  pub listed : look key ≡ Some c
  pub reached : key ≤ k
  pub greatest : (j other : ℕ) → look j ≡ Some other → j ≤ k → j ≤ key

-- The anchor and a dead page cover no key: they end at 0.
abbrev pub node_of : Page → Node
node_of (Anchor a) = record { shape = record { level = 0; low = 0; end = 0; right = 0 }; look = λ k. None }
node_of (Leaf l) = record { shape = record { level = 0; low = l.low; end = end_of l.high; right = l.right }; look = map_of l.rows.items }
node_of (Inner i) = record { shape = record { level = i.level; low = i.low; end = end_of i.high; right = i.right }; look = map_of i.children.items }
node_of (Dead d) = record { shape = record { level = d.level; low = d.low; end = 0; right = d.right }; look = λ k. None }

-- what page 0 says of the levels
abbrev pub roots_of : Page → Roots
roots_of (Anchor a) = record { levels = length a.leftmost.items; leftmost = λ l. get_or a.leftmost.items l 0 }
roots_of page = record { levels = 0; leftmost = λ l. 0 }

-- a leaf or an inner page
abbrev pub IsTreePage : Page → Type 0
IsTreePage (Leaf l) = Unit {0}
IsTreePage (Inner i) = Unit {0}
IsTreePage page = ⊥
