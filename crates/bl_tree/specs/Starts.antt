-- Sound pages: what holds of a tree's pages when nothing is under way, so that work may begin.
use Rattle.std.specs.Prelude.{◌≡◌, ℕ, zero, suc, ◌<◌, ◌≤◌, nat_lt, if◌then◌else◌, Bool, false, IsTrue, Some, None}
use Rattle.bl_model.specs.Map.{Map}
use Rattle.bl_page.specs.Nodes.{Node, Roots, unbounded}

-- y is reached from x by right links
pub data IsReached (node : ℕ → Node) : ℕ → ℕ → Type 0 where
  Here : {x : ℕ} → IsReached node x x
  Next : {x y : ℕ} → (node x).shape.end < unbounded → IsReached node (node x).shape.right y → IsReached node x y

-- These pages are live and no others. Each is on the chain of its level; on a chain each bound is the next page's low; each
-- listed child is one level lower, and its low is the listed key.
pub record AreSound (live : ℕ → Bool) (node : ℕ → Node) (roots : Roots) : Type 0 where
  pub anchor : live 0 ≡ false
  pub some_level : 0 < roots.levels
  pub few_levels : roots.levels ≤ 12
  pub leftmost : (l : ℕ) → l < roots.levels → IsTrue (live (roots.leftmost l)) × ((node (roots.leftmost l)).shape.level ≡ l)
      × ((node (roots.leftmost l)).shape.low ≡ 0)
  pub wide : (x : ℕ) → IsTrue (live x) → (node x).shape.low < (node x).shape.end
  pub within : (x : ℕ) → IsTrue (live x) → (node x).shape.end ≤ unbounded
  pub linked : (x : ℕ) → IsTrue (live x) → (node x).shape.end < unbounded
      → IsTrue (live (node x).shape.right) × ((node (node x).shape.right).shape.level ≡ (node x).shape.level)
      × ((node (node x).shape.right).shape.low ≡ (node x).shape.end)
  pub last : (x : ℕ) → IsTrue (live x) → (node x).shape.end ≡ unbounded → (node x).shape.right ≡ 0
  pub on_chain : (x : ℕ) → IsTrue (live x) → ((node x).shape.level < roots.levels) × IsReached node (roots.leftmost (node x).shape.level) x
  pub children : (x k c : ℕ) → IsTrue (live x) → 0 < (node x).shape.level → (node x).look k ≡ Some c
      → IsTrue (live c) × (suc (node c).shape.level ≡ (node x).shape.level) × ((node c).shape.low ≡ k)

-- the page that covers a key: x, or one to its right, after n links at most
abbrev pub found : (ℕ → Node) → ℕ → ℕ → ℕ → ℕ
found node zero x k = x
found node (suc n) x k = if nat_lt k (node x).shape.end then x else found node n (node x).shape.right k

-- What a level of sound pages lists with a key: what the page of that level says that covers it. Each bound is above the one
-- before, so k + 1 links lead past k. There is nothing above the last level, nor with numbers that are no keys.
abbrev pub start_map : (ℕ → Node) → Roots → ℕ → Map
start_map node roots l k =
    if nat_lt l roots.levels then (if nat_lt k unbounded then (node (found node (suc k) (roots.leftmost l) k)).look k else None) else None
