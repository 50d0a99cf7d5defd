-- The puts of a compression, each with what it must know and what then stands in the world. p holds the parent, the left
-- page x and the right page y.
use Rattle.std.specs.Prelude.{◌≡◌, ◌≢◌, ℕ, suc, ◌<◌, ◌≤◌, None, Some}
use Rattle.bl_page.specs.declared.page.Page.{Page}
use Rattle.bl_page.specs.Machine.{Name, IsAt}
use Rattle.bl_page.specs.Machine.Owner.{Held}
use Rattle.bl_page.specs.Nodes.{Covers, unbounded, node_of}
use Rattle.bl_tree.specs.Trees.Status.{Fresh, Live, Left, Right, Gone}
use Rattle.bl_tree.specs.Moves.{IsAtTwo, IsJoin, IsLeftGain, IsRightLoss, IsRightGain, IsLeftLoss, IsRelisted}
use Rattle.bl_tree_worlds.specs.Worlds.{Know, World, nodes}
use Rattle.bl_tree_worlds.specs.Puts.{Owes}

-- The first put, of page z, which is x or y: the two are in the middle of a compression from then on.
pub record Couples {P : Type 0} (know : P → Know) (w w' : World P) (p : Name) (parent x y z : ℕ) (c : Page) (b : P) : Type 0 where
  pub owes : Owes know w w' p z c None b
  pub live : w.status x ≡ Live
  pub right_live : w.status y ≡ Live
  pub held : w.now.owner x ≡ Held p
  pub right_held : w.now.owner y ≡ Held p
  pub bound : (nodes w.now x).shape.end < unbounded
  pub linked : (nodes w.now x).shape.right ≡ y
  pub parent_held : w.now.owner parent ≡ Held p
  pub parent_live : w.status parent ≡ Live
  pub parent_level : (nodes w.now parent).shape.level ≡ suc (nodes w.now y).shape.level
  pub parent_covers : Covers (nodes w.now parent).shape (nodes w'.now y).shape.low
  pub none_fresh : (v : ℕ) → w.now.owner v ≡ Held p → w.status v ≢ Fresh
  pub no_middle : (know (w.proc p)).middle ≡ None
  pub middle : (know b).middle ≡ Some (record { parent = parent; left = x; right = y })
  pub status : IsAtTwo x y (Left y) (Right x) w.status w'.status
  pub sep : w'.sep ≡ w.sep
  pub map : w'.map ≡ w.map

-- a merge begins: x takes all of y
pub record PutsJoin {P : Type 0} (know : P → Know) (w w' : World P) (p : Name) (parent x y : ℕ) (c : Page) (b : P) : Type 0 where
  pub couple : Couples know w w' p parent x y x c b
  pub join : IsJoin (nodes w.now x) (nodes w.now y) (node_of c)

-- an evening begins: x takes the front of y
pub record PutsLeftGain {P : Type 0} (know : P → Know) (w w' : World P) (p : Name) (parent x y : ℕ) (c : Page) (b : P) : Type 0 where
  pub couple : Couples know w w' p parent x y x c b
  pub gain : IsLeftGain y (nodes w.now x) (nodes w.now y) (node_of c)

-- an evening begins: y takes the back of x
pub record PutsRightGain {P : Type 0} (know : P → Know) (w w' : World P) (p : Name) (parent x y : ℕ) (c : Page) (b : P) : Type 0 where
  pub couple : Couples know w w' p parent x y y c b
  pub gain : IsRightGain (nodes w.now x) (nodes w.now y) (node_of c)

-- An evening's second put: the parent lists y by the key e.
pub record PutsRelisted {P : Type 0} (know : P → Know) (w w' : World P) (p : Name) (parent x y e : ℕ) (c : Page) (b : P) : Type 0 where
  pub owes : Owes know w w' p parent c None b
  pub live : w.status parent ≡ Live
  pub right : w.status y ≡ Right x
  pub right_held : w.now.owner y ≡ Held p
  pub level : (nodes w.now parent).shape.level ≡ suc (nodes w.now y).shape.level
  pub above : 0 < (nodes w.now y).shape.low
  pub low : (nodes w.now y).shape.low ≤ e
  pub relisted : IsRelisted y (w.sep y) e (nodes w.now parent) (node_of c)
  pub none_fresh : (v : ℕ) → w.now.owner v ≡ Held p → w.status v ≢ Fresh
  pub middle : (know b).middle ≡ (know (w.proc p)).middle
  pub status : w'.status ≡ w.status
  pub sep : IsAt y e w.sep w'.sep
  pub gone : w'.map (nodes w.now parent).shape.level (w.sep y) ≡ None
  pub here : w'.map (nodes w.now parent).shape.level e ≡ Some y
  pub rest : (k : ℕ) → k ≢ w.sep y → k ≢ e → w'.map (nodes w.now parent).shape.level k ≡ w.map (nodes w.now parent).shape.level k
  pub others : (l : ℕ) → l ≢ (nodes w.now parent).shape.level → w'.map l ≡ w.map l

-- The last put, of page z, which is x or y: p was in the middle of a compression of the two.
pub record Parts {P : Type 0} (know : P → Know) (w w' : World P) (p : Name) (parent x y z : ℕ) (c : Page) (b : P) : Type 0 where
  pub owes : Owes know w w' p z c None b
  pub left : w.status x ≡ Left y
  pub held : w.now.owner x ≡ Held p
  pub right_held : w.now.owner y ≡ Held p
  pub level : (nodes w.now x).shape.level ≡ (nodes w.now y).shape.level
  pub below : (nodes w.now x).shape.low < (nodes w.now y).shape.low
  pub none_fresh : (v : ℕ) → w.now.owner v ≡ Held p → w.status v ≢ Fresh
  pub middle : (know (w.proc p)).middle ≡ Some (record { parent = parent; left = x; right = y })
  pub sep : w'.sep ≡ w.sep
  pub map : w'.map ≡ w.map

-- an evening ends: y loses what x has gained
pub record PutsRightLoss {P : Type 0} (know : P → Know) (w w' : World P) (p : Name) (parent x y : ℕ) (c : Page) (b : P) : Type 0 where
  pub parts : Parts know w w' p parent x y y c b
  pub meets : (nodes w.now y).shape.low < (nodes w.now x).shape.end
  pub inner : (nodes w.now x).shape.end < (nodes w.now y).shape.end
  pub linked : (nodes w.now x).shape.right ≡ y
  pub y_sep : w.sep y ≡ (nodes w.now x).shape.end
  pub loss : IsRightLoss (nodes w.now x) (nodes w.now y) (node_of c)
  pub status : IsAtTwo x y Live Live w.status w'.status

-- an evening ends: x loses what y has gained
pub record PutsLeftLoss {P : Type 0} (know : P → Know) (w w' : World P) (p : Name) (parent x y : ℕ) (c : Page) (b : P) : Type 0 where
  pub parts : Parts know w w' p parent x y x c b
  pub meets : (nodes w.now y).shape.low ≤ (nodes w.now x).shape.end
  pub y_sep : w.sep y ≡ (nodes w.now y).shape.low
  pub loss : IsLeftLoss y (nodes w.now x) (nodes w.now y) (node_of c)
  pub status : IsAtTwo x y Live Live w.status w'.status

-- A merge ends: y, which the parent lists no more, is dead and leads to x.
pub record PutsDead {P : Type 0} (know : P → Know) (w w' : World P) (p : Name) (parent x y : ℕ) (c : Page) (b : P) : Type 0 where
  pub parts : Parts know w w' p parent x y y c b
  pub end : (nodes w.now x).shape.end ≡ (nodes w.now y).shape.end
  pub right : (nodes w.now x).shape.right ≡ (nodes w.now y).shape.right
  pub parent_held : w.now.owner parent ≡ Held p
  pub parent_live : w.status parent ≡ Live
  pub parent_level : (nodes w.now parent).shape.level ≡ suc (nodes w.now y).shape.level
  pub parent_covers : Covers (nodes w.now parent).shape (w.sep y)
  pub unlisted : (nodes w.now parent).look (w.sep y) ≡ None
  pub dead_level : (node_of c).shape.level ≡ (nodes w.now y).shape.level
  pub dead_end : (node_of c).shape.end ≡ 0
  pub leads : (node_of c).shape.right ≡ x
  pub status : IsAtTwo x y Live Gone w.status w'.status
