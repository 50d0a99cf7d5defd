-- The laws of the tree at one moment: what its pages have to do with the map, with one another and with their parents.
use Rattle.std.specs.Prelude.{◌≡◌, ◌⊎◌, ℕ, suc, ◌<◌, Some, List, [], ◌∷◌}
use Rattle.bl_model.specs.Map.{Map}
use Rattle.bl_page.specs.Nodes.{Covers, unbounded}
use Rattle.bl_claims.specs.Snapshots.{Snapshot}

-- A live leaf that covers a key has the key's row exactly where the map has it.
abbrev pub Agreement : Snapshot → Map → Type 0
Agreement t map = (x k : ℕ) → t.live x → (t.node x).shape.level ≡ 0 → Covers (t.node x).shape k → (t.node x).look k ≡ map k

-- Two live pages of one level cover a common key only in the middle of a compression of the two.
abbrev pub Overlap : Snapshot → Type 0
Overlap t = (x y k : ℕ) → t.live x → t.live y → (t.node x).shape.level ≡ (t.node y).shape.level → Covers (t.node x).shape k → Covers (t.node y).shape k
    → (x ≡ y) ⊎ (t.middle x y ⊎ t.middle y x)

-- One page of the chain and the next: the bound is the next page's low, or greater in the middle of a compression.
pub record IsLinked (t : Snapshot) (x y : ℕ) : Type 0 where
  pub right : (t.node x).shape.right ≡ y
  pub meets : ((t.node x).shape.end ≡ (t.node y).shape.low) ⊎ (((t.node y).shape.low < (t.node x).shape.end) × t.middle x y)

-- These pages, from left to right: live pages of the level, each linked to the next. The last has no bound and no link.
abbrev pub IsChain : Snapshot → ℕ → ℕ → List ℕ → Type 0
IsChain t level x [] = t.live x × ((t.node x).shape.level ≡ level) × ((t.node x).shape.end ≡ unbounded) × ((t.node x).shape.right ≡ 0)
IsChain t level x (y ∷ rest) = t.live x × ((t.node x).shape.level ≡ level) × IsLinked t x y × IsChain t level y rest

-- The chain of a level begins at its leftmost page, whose low is 0.
pub record HasChain (t : Snapshot) (level : ℕ) : Type 0 where
  pub begins : (t.node (t.roots.leftmost level)).shape.low ≡ 0
  pub rest : List ℕ
  pub chain : IsChain t level (t.roots.leftmost level) rest

-- A child that a live inner page lists is live and one level lower. Its low is the listed key, or below it in the middle
-- of an evening.
pub record IsListed (t : Snapshot) (level k c : ℕ) : Type 0 where
  pub alive : t.live c
  pub lower : suc (t.node c).shape.level ≡ level
  pub low : ((t.node c).shape.low ≡ k) ⊎ (((t.node c).shape.low < k) × t.evened c)

abbrev pub Listing : Snapshot → Type 0
Listing t = (x k c : ℕ) → t.live x → 0 < (t.node x).shape.level → (t.node x).look k ≡ Some c → IsListed t (t.node x).shape.level k c
