-- The order in which pages are latched.
use Rattle.std.specs.Prelude.{◌≡◌, ◌≢◌, ◌⊎◌, ℕ, ◌<◌}
use Rattle.bl_page.specs.declared.page.Page.{Page}
use Rattle.bl_page.specs.Machine.{State}
use Rattle.bl_page.specs.Nodes.{node_of}

-- Page x stands below page y: the anchor stands above all others, a page of a higher level above one of a lower level, and of
-- two pages of one level the one that ends earlier above the one that ends later.
pub record StandsBelow (s : State Page) (x y : ℕ) : Type 0 where
  pub other : x ≢ 0
  pub below : (y ≡ 0) ⊎ (((node_of (s.contents x)).shape.level < (node_of (s.contents y)).shape.level)
      ⊎ (((node_of (s.contents x)).shape.level ≡ (node_of (s.contents y)).shape.level) × ((node_of (s.contents y)).shape.end < (node_of (s.contents x)).shape.end)))
