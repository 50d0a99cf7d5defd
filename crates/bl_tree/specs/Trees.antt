-- The invariant of the tree: facts about one page, or a page and its neighbour, that every move keeps.
-- It speaks of more than the pages say: where each page stands, and the key that it is listed by.
use Rattle.std.specs.Prelude.{◌≡◌, ◌≢◌, ℕ, suc, ◌<◌, ◌≤◌, Bool, true, false, Some}
use Rattle.bl_model.specs.Map.{Map}
use Rattle.bl_page.specs.Nodes.{Shape, Node, Covers, Roots}

-- Where a page stands: it is free, taken and not yet named by any page, in the tree, or dead and not yet released. While
-- two neighbours are compressed, the left one is Left of the right one, which is Right of it. Uprooted is a top page that
-- page 0 names no longer, and that is not yet dead. Anchored is page 0.
pub data Status : Type 0 where
  Free : Status
  Fresh : Status
  Live : Status
  Left : (mate : ℕ) → Status
  Right : (mate : ℕ) → Status
  Uprooted : Status
  Gone : Status
  Anchored : Status

unfoldable pub is_live : Status → Bool
is_live Free = false
is_live Fresh = false
is_live Live = true
is_live (Left y) = true
is_live (Right y) = true
is_live Uprooted = true
is_live Gone = false
is_live Anchored = false

abbrev pub IsLive : Status → Type 0
IsLive t = is_live t ≡ true

-- The pages lie side by side on each level. sep is the key that a page is listed by, or is to be.
pub record IsShape (top : ℕ) (st : ℕ → Status) (shape : ℕ → Shape) (sep : ℕ → ℕ) : Type 0 where
  pub wide : (x : ℕ) → IsLive (st x) → (shape x).low < (shape x).end
  pub within : (x : ℕ) → IsLive (st x) → (shape x).end ≤ top
  pub last : (x : ℕ) → IsLive (st x) → (shape x).end ≡ top → (shape x).right ≡ 0
  pub link_live : (x : ℕ) → IsLive (st x) → (shape x).end < top → IsLive (st (shape x).right)
  pub link_level : (x : ℕ) → IsLive (st x) → (shape x).end < top → (shape (shape x).right).level ≡ (shape x).level
  pub link_low : (x : ℕ) → IsLive (st x) → (shape x).end < top → (shape (shape x).right).low ≤ (shape x).end
  pub link_rise : (x : ℕ) → IsLive (st x) → (shape x).end < top → (shape x).end < (shape (shape x).right).end
  pub link_same : (x : ℕ) → IsLive (st x) → (shape x).end < top → st x ≢ Left (shape x).right → (shape (shape x).right).low ≡ (shape x).end
  pub left : (x y : ℕ) → st x ≡ Left y → st y ≡ Right x
  pub right : (x y : ℕ) → st y ≡ Right x → st x ≡ Left y
  pub apart : (x y k : ℕ) → IsLive (st x) → IsLive (st y) → (shape x).level ≡ (shape y).level → Covers (shape x) k → Covers (shape y) k → st x ≢ Left y
      → st x ≢ Right y → x ≡ y
  pub sep_low : (x : ℕ) → IsLive (st x) → (shape x).low ≤ sep x
  pub sep_same : (x : ℕ) → IsLive (st x) → ((y : ℕ) → st x ≢ Right y) → (shape x).low ≡ sep x

-- The tree at one moment. map l says what level l has at each key: on level 0 the user's map, above it the listed children.
pub record Tree : Type 0 where
  pub node : ℕ → Node
  pub roots : Roots
  pub status : ℕ → Status
  pub sep : ℕ → ℕ
  pub map : ℕ → Map

abbrev pub shapes : (ℕ → Node) → ℕ → Shape
shapes node x = (node x).shape

-- a page of that level that may be listed by the key
pub record IsChild (t : Tree) (level k c : ℕ) : Type 0 where
  pub alive : IsLive (t.status c)
  pub level_is : (t.node c).shape.level ≡ level
  pub sep_is : t.sep c ≡ k

-- a page that covers every key, of the first level that page 0 has not
pub record IsUprooted (top : ℕ) (t : Tree) (x : ℕ) : Type 0 where
  pub level_is : (t.node x).shape.level ≡ t.roots.levels
  pub low : (t.node x).shape.low ≡ 0
  pub end : (t.node x).shape.end ≡ top

-- an uprooted page of that level
pub record HasUprooted (t : Tree) (level : ℕ) : Type 0 where
  pub page : ℕ
  pub is : t.status page ≡ Uprooted
  pub level_is : (t.node page).shape.level ≡ level

pub record IsTree (top : ℕ) (t : Tree) : Type 0 where
  pub side : IsShape top t.status (shapes t.node) t.sep
  pub agree : (x k : ℕ) → IsLive (t.status x) → Covers (t.node x).shape k → (t.node x).look k ≡ t.map (t.node x).shape.level k
  pub listed : (l k c : ℕ) → t.map (suc l) k ≡ Some c → IsChild t l k c
  pub anchored : t.status 0 ≡ Anchored
  pub some_level : 0 < t.roots.levels
  pub few_levels : t.roots.levels ≤ 12
  pub leftmost : (l : ℕ) → l < t.roots.levels → IsChild t l 0 (t.roots.leftmost l)
  pub below : (x : ℕ) → IsLive (t.status x) → t.status x ≢ Uprooted → (t.node x).shape.level < t.roots.levels
  pub uprooted : (x : ℕ) → t.status x ≡ Uprooted → IsUprooted top t x
  pub empty : (l k c : ℕ) → t.roots.levels ≤ l → t.map l k ≡ Some c → HasUprooted t l
