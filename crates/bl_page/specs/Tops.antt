-- The top of a tree: which page it is, whether the tree needs it, and what is left where it does not.
use Rattle.std.specs.Prelude.{◌≡◌, ℕ, ◌-◌, List, length}
use Rattle.bl_page.specs.declared.page.Page.{Page}
use Rattle.bl_page.specs.declared.page.Page.TheVariants.{Anchor, Inner, Dead}
use Rattle.bl_page.specs.Nodes.{Roots}

-- the leftmost page of the top level
abbrev pub top_of : Roots → ℕ
top_of roots = roots.leftmost (roots.levels - 1)

-- the anchor with that list of leftmost pages
abbrev pub IsAnchor : List ℕ → Page → Type 0
IsAnchor leftmost (Anchor a) = a.leftmost.items ≡ leftmost
IsAnchor leftmost page = ⊥

-- A page that is not needed as the top of the tree: it has one pair, no bound and no link.
abbrev pub IsSole : Page → Type 0
IsSole (Inner i) = (length i.children.items ≡ 1) × (i.high ≡ 0) × (i.right ≡ 0)
IsSole page = ⊥

-- what a top page of that level becomes
abbrev pub IsFallen : ℕ → Page → Type 0
IsFallen level (Dead d) = (d.level ≡ level) × (d.low ≡ 0) × (d.right ≡ 0)
IsFallen level page = ⊥
