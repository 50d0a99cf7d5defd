-- What each page of a tree says of itself.
use Rattle.std.specs.Prelude.{◌≡◌, ℕ, ◌<◌, Some}
use Rattle.bl_page.specs.Nodes.{Node, Covers}
use Rattle.bl_tree.specs.Trees.{IsLive, Tree}

-- What each leaf and each inner page says, whatever tree it is in: it lists keys that it covers, and as an inner page one
-- child from its low on.
pub record IsSoundNode (n : Node) : Type 0 where
  pub covered : (k v : ℕ) → n.look k ≡ Some v → Covers n.shape k
  pub first : 0 < n.shape.level → (c : ℕ) × (n.look n.shape.low ≡ Some c)

abbrev pub AllSound : Tree → Type 0
AllSound t = (x : ℕ) → IsLive (t.status x) → IsSoundNode (t.node x)
