-- The lone walk of a key: the pages that a search would meet if nothing changed meanwhile.
use Rattle.std.specs.Prelude.{◌≡◌, ◌≢◌, ℕ, suc, ◌<◌, ◌≤◌, List, [], ◌∷◌}
use Rattle.bl_page.specs.Nodes.{Node, Covers, IsChildOf}
use Rattle.bl_claims.specs.Snapshots.{Snapshot}

-- The pages met from one page on: to the right where the key is beyond the page's bound, else down to the key's child,
-- until a leaf covers it.
pub data IsWalk (node : ℕ → Node) (k : ℕ) : ℕ → List ℕ → ℕ → Type 0 where
  Ends : {x : ℕ} → (node x).shape.level ≡ 0 → Covers (node x).shape k → IsWalk node k x (x ∷ []) x
  Right : {x leaf : ℕ} {pages : List ℕ} → (node x).shape.end ≤ k → IsWalk node k (node x).shape.right pages leaf → IsWalk node k x (x ∷ pages) leaf
  Down : {x c leaf : ℕ} {pages : List ℕ} → 0 < (node x).shape.level → Covers (node x).shape k → IsChildOf (node x).look k c → IsWalk node k c pages leaf
      → IsWalk node k x (x ∷ pages) leaf

-- it holds of each of these
abbrev pub Each : {A : Type 0} → (A → Type 0) → List A → Type 0
Each P [] = Unit {0}
Each P (x ∷ xs) = P x × Each P xs

-- the page is none of these
abbrev pub IsNoneOf : ℕ → List ℕ → Type 0
IsNoneOf x [] = Unit {0}
IsNoneOf x (y ∷ ys) = (x ≢ y) × IsNoneOf x ys

abbrev pub NoneTwice : List ℕ → Type 0
NoneTwice [] = Unit {0}
NoneTwice (x ∷ xs) = IsNoneOf x xs × NoneTwice xs

-- From page 0 the walk goes to the leftmost page of the top level. It meets live pages alone and none twice, and ends at
-- a leaf that covers the key.
pub record HasLoneWalk (t : Snapshot) (k : ℕ) : Type 0 where
  pub top_level : ℕ
  pub is_top : suc top_level ≡ t.roots.levels
  pub pages : List ℕ
  pub leaf : ℕ
  pub walk : IsWalk t.node k (t.roots.leftmost top_level) pages leaf
  pub all_live : Each t.live pages
  pub alive : t.live leaf
  pub is_leaf : (t.node leaf).shape.level ≡ 0
  pub covers : Covers (t.node leaf).shape k
  pub once : NoneTwice pages
