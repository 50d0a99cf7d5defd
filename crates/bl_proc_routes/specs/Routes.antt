-- Where a page leads on the way to the page of a level that covers a key.
use Rattle.std.specs.Prelude.{◌≡◌, ◌≢◌, ℕ, ◌<◌, ◌≤◌, ◌⊎◌}
use Rattle.bl_page.specs.declared.page.Page.{Page}
use Rattle.bl_page.specs.declared.page.Page.TheVariants.{Anchor, Leaf, Inner, Dead}
use Rattle.bl_page.specs.Nodes.{Covers, node_of, IsTreePage, IsChildOf}
use Rattle.bl_proc_routes.specs.declared.routes.Step.{Step}
use Rattle.bl_proc_routes.specs.declared.routes.Step.TheVariants.{Again, Right, Down, Here}

-- a page that was merged away, or that was the top of the tree
abbrev pub IsDead : Page → Type 0
IsDead (Anchor a) = ⊥
IsDead (Leaf l) = ⊥
IsDead (Inner i) = ⊥
IsDead (Dead d) = Unit {0}

-- A dead page leads to its right, if it has a link, and so does a page that ends at the key or below it. A page that covers the
-- key leads down while it is above the level, and is the one that was looked for on the level. From a page whose low is above
-- the key, or that is below the level, the way begins again, and so it does from a dead page without a link.
abbrev pub Leads : Page → ℕ → ℕ → Step → Type 0
Leads c key level Again =
    (IsDead c → (node_of c).shape.right ≡ 0) × (IsTreePage c → (key < (node_of c).shape.low) ⊎ (Covers (node_of c).shape key × (node_of c).shape.level < level))
Leads c key level (Right x) = (x ≡ (node_of c).shape.right) × ((IsDead c × ((node_of c).shape.right ≢ 0)) ⊎ (IsTreePage c × (node_of c).shape.end ≤ key))
Leads c key level (Down x) = IsTreePage c × Covers (node_of c).shape key × (level < (node_of c).shape.level) × IsChildOf (node_of c).look key x
Leads c key level Here = IsTreePage c × Covers (node_of c).shape key × ((node_of c).shape.level ≡ level)
