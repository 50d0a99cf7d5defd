-- The puts of a process, each with what it must know and what then stands in the world.
use Rattle.std.specs.Prelude.{◌≡◌, ◌≢◌, ℕ, suc, ◌<◌, None, Some, Option}
use Rattle.bl_page.specs.declared.page.Page.{Page}
use Rattle.bl_page.specs.Machine.{Name, IsAt}
use Rattle.bl_page.specs.Machine.Owner.{Held}
use Rattle.bl_page.specs.Machine.Phase.{Running}
use Rattle.bl_page.specs.Nodes.{unbounded, node_of, roots_of}
use Rattle.bl_tree.specs.Trees.Status.{Fresh, Live, Uprooted, Gone}
use Rattle.bl_tree.specs.Moves.{IsMapRow, MayList, IsRow, IsCut}
use Rattle.bl_claims.specs.Trails.{Said, HasSaid}
use Rattle.bl_tree_worlds.specs.Worlds.{Know, World, nodes, tree_of, MapsTo, IsSure, HoldsPage, IsBounded, Extends, put_mark}

-- What every put of p owes, whatever it does to the tree: p keeps what it holds, and may have the point of its operation.
pub record Owes {P : Type 0} (know : P → Know) (w w' : World P) (p : Name) (x : ℕ) (c : Page) (said : Option Said) (b : P) : Type 0 where
  pub extends : Extends w w' (put_mark p x c said) b
  pub no_dead : (y : ℕ) → w.now.owner y ≡ Held p → w.status y ≢ Gone
  pub places : (y : ℕ) → HoldsPage (know (w.proc p)).holds y → HoldsPage (know b).holds y
  pub point : (s : Said) → said ≡ Some s → ((since : ℕ) × (w.now.phase p ≡ Running since)) × HasSaid w.trail p None
  pub maps : MapsTo (w.map 0) (w'.map 0) said
  pub bounded : IsBounded (w'.map 0)
  pub own : IsSure w' p (know b)

-- A fresh page is put, which is to be listed by that key.
pub record PutsFresh {P : Type 0} (know : P → Know) (w w' : World P) (p : Name) (y key : ℕ) (c : Page) (b : P) : Type 0 where
  pub owes : Owes know w w' p y c None b
  pub fresh : w.status y ≡ Fresh
  pub only : (z : ℕ) → w.now.owner z ≡ Held p → w.status z ≡ Fresh → z ≡ y
  pub no_middle : (know (w.proc p)).middle ≡ None
  pub status : w'.status ≡ w.status
  pub sep : IsAt y key w.sep w'.sep
  pub map : w'.map ≡ w.map

-- A page is put with the pair of k changed to v.
pub record PutsRow {P : Type 0} (know : P → Know) (w w' : World P) (p : Name) (x k : ℕ) (v : Option ℕ) (c : Page) (said : Option Said) (b : P) : Type 0 where
  pub owes : Owes know w w' p x c said b
  pub live : w.status x ≡ Live
  pub row : IsRow k v (nodes w.now x) (node_of c)
  pub child : MayList (tree_of w) (nodes w.now x).shape.level k v
  pub none_fresh : (z : ℕ) → w.now.owner z ≡ Held p → w.status z ≢ Fresh
  pub middle : (know b).middle ≡ (know (w.proc p)).middle
  pub status : w'.status ≡ w.status
  pub sep : w'.sep ≡ w.sep
  pub map : IsMapRow (nodes w.now x).shape.level k v w.map w'.map

-- The old page of a split is put, with the pair of k changed to v; it names the fresh page y.
pub record PutsSplit {P : Type 0} (know : P → Know) (w w' : World P) (p : Name) (x y k : ℕ) (v : Option ℕ) (c : Page) (said : Option Said) (b : P)
    : Type 0 where
  pub owes : Owes know w w' p x c said b
  pub live : w.status x ≡ Live
  pub fresh : w.status y ≡ Fresh
  pub held : w.now.owner y ≡ Held p
  pub only : (z : ℕ) → w.now.owner z ≡ Held p → w.status z ≡ Fresh → z ≡ y
  pub cut : IsCut y k v (nodes w.now x) (node_of c) (nodes w.now y)
  pub y_sep : w.sep y ≡ (nodes w.now y).shape.low
  pub child : MayList (tree_of w) (nodes w.now x).shape.level k v
  pub no_middle : (know (w.proc p)).middle ≡ None
  pub status : IsAt y Live w.status w'.status
  pub sep : w'.sep ≡ w.sep
  pub map : IsMapRow (nodes w.now x).shape.level k v w.map w'.map

-- The anchor is put; it names the fresh page y as the top of the tree, which lists the leftmost page below.
pub record PutsTop {P : Type 0} (know : P → Know) (w w' : World P) (p : Name) (y : ℕ) (c : Page) (b : P) : Type 0 where
  pub owes : Owes know w w' p 0 c None b
  pub fresh : w.status y ≡ Fresh
  pub held : w.now.owner y ≡ Held p
  pub only : (z : ℕ) → w.now.owner z ≡ Held p → w.status z ≡ Fresh → z ≡ y
  pub room : (roots_of (w.now.contents 0)).levels < 12
  pub level : (nodes w.now y).shape.level ≡ (roots_of (w.now.contents 0)).levels
  pub low : (nodes w.now y).shape.low ≡ 0
  pub end : (nodes w.now y).shape.end ≡ unbounded
  pub right : (nodes w.now y).shape.right ≡ 0
  pub y_sep : w.sep y ≡ 0
  pub none_uprooted : (z : ℕ) → w.now.owner z ≡ Held p → w.status z ≢ Uprooted
  pub first : (l : ℕ) → suc l ≡ (roots_of (w.now.contents 0)).levels → (nodes w.now y).look 0 ≡ Some ((roots_of (w.now.contents 0)).leftmost l)
  pub others : (k : ℕ) → k ≢ 0 → (nodes w.now y).look k ≡ None
  pub levels : (roots_of c).levels ≡ suc (roots_of (w.now.contents 0)).levels
  pub leftmost : IsAt (roots_of (w.now.contents 0)).levels y (roots_of (w.now.contents 0)).leftmost (roots_of c).leftmost
  pub no_middle : (know (w.proc p)).middle ≡ None
  pub status : IsAt y Live w.status w'.status
  pub sep : w'.sep ≡ w.sep
  pub map : IsAt (roots_of (w.now.contents 0)).levels (nodes w.now y).look w.map w'.map

-- The anchor is put, and names the top level no longer. p holds its only page x, which is uprooted then.
pub record PutsLower {P : Type 0} (know : P → Know) (w w' : World P) (p : Name) (x : ℕ) (c : Page) (b : P) : Type 0 where
  pub owes : Owes know w w' p 0 c None b
  pub live : w.status x ≡ Live
  pub held : w.now.owner x ≡ Held p
  pub level : suc (nodes w.now x).shape.level ≡ (roots_of (w.now.contents 0)).levels
  pub above : 0 < (nodes w.now x).shape.level
  pub low : (nodes w.now x).shape.low ≡ 0
  pub end : (nodes w.now x).shape.end ≡ unbounded
  pub none_uprooted : (z : ℕ) → w.now.owner z ≡ Held p → w.status z ≢ Uprooted
  pub none_fresh : (z : ℕ) → w.now.owner z ≡ Held p → w.status z ≢ Fresh
  pub levels : (roots_of c).levels ≡ (nodes w.now x).shape.level
  pub leftmost : (l : ℕ) → l < (nodes w.now x).shape.level → (roots_of c).leftmost l ≡ (roots_of (w.now.contents 0)).leftmost l
  pub no_middle : (know (w.proc p)).middle ≡ None
  pub status : IsAt x Uprooted w.status w'.status
  pub sep : w'.sep ≡ w.sep
  pub map : w'.map ≡ w.map

-- The uprooted page x is put: it is dead, and has no link. Nothing is said of its level any more.
pub record PutsFallen {P : Type 0} (know : P → Know) (w w' : World P) (p : Name) (x : ℕ) (c : Page) (b : P) : Type 0 where
  pub owes : Owes know w w' p x c None b
  pub uprooted : w.status x ≡ Uprooted
  pub dead_level : (node_of c).shape.level ≡ (nodes w.now x).shape.level
  pub dead_end : (node_of c).shape.end ≡ 0
  pub dead_right : (node_of c).shape.right ≡ 0
  pub none_fresh : (z : ℕ) → w.now.owner z ≡ Held p → w.status z ≢ Fresh
  pub no_middle : (know (w.proc p)).middle ≡ None
  pub status : IsAt x Gone w.status w'.status
  pub sep : w'.sep ≡ w.sep
  pub map : IsAt (nodes w.now x).shape.level (λ k. None) w.map w'.map
