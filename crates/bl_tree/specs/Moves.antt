-- The moves of the tree, one for each put that changes what a page in the tree says, and one for pages that are not in it.
-- A move says what page gets which contents, where pages then stand, and what the levels then say at each key.
use Rattle.std.specs.Prelude.{◌≡◌, ◌≢◌, ℕ, suc, ◌<◌, ◌≤◌, false, Option, Some, None}
use Rattle.bl_page.specs.Machine.{IsAt}
use Rattle.bl_model.specs.Map.{Map}
use Rattle.bl_page.specs.Nodes.{Node, Covers}
use Rattle.bl_tree.specs.Trees.{is_live, Tree, IsChild}
use Rattle.bl_tree.specs.Trees.Status.{Fresh, Live, Left, Right, Uprooted, Gone}

-- two places change
pub record IsAtTwo {A : Type 0} (x y : ℕ) (a b : A) (old new : ℕ → A) : Type 0 where
  pub at : new x ≡ a
  pub at_two : new y ≡ b
  pub others : (z : ℕ) → z ≢ x → z ≢ y → new z ≡ old z

-- one level's map is changed at k
pub record IsMapRow (l k : ℕ) (v : Option ℕ) (m m' : ℕ → Map) : Type 0 where
  pub here : m' l k ≡ v
  pub rest : (j : ℕ) → j ≢ k → m' l j ≡ m l j
  pub others : (i : ℕ) → i ≢ l → m' i ≡ m i

-- a child, if there is one, that may be listed so
abbrev pub MayList : Tree → ℕ → ℕ → Option ℕ → Type 0
MayList t level k v = (l c : ℕ) → suc l ≡ level → v ≡ Some c → IsChild t l k c

-- Contents of pages

-- b is a, with the pair of k changed to v
pub record IsRow (k : ℕ) (v : Option ℕ) (a b : Node) : Type 0 where
  pub covered : Covers a.shape k
  pub shape : b.shape ≡ a.shape
  pub here : b.look k ≡ v
  pub rest : (j : ℕ) → j ≢ k → b.look j ≡ a.look j

-- a, with the pair of k changed to v, is cut into b and c. c is page y, to the right of b.
pub record IsCut (y k : ℕ) (v : Option ℕ) (a b c : Node) : Type 0 where
  pub covered : Covers a.shape k
  pub above : a.shape.low < c.shape.low
  pub below : c.shape.low < a.shape.end
  pub level : b.shape.level ≡ a.shape.level
  pub low : b.shape.low ≡ a.shape.low
  pub end : b.shape.end ≡ c.shape.low
  pub right : b.shape.right ≡ y
  pub right_level : c.shape.level ≡ a.shape.level
  pub right_end : c.shape.end ≡ a.shape.end
  pub right_right : c.shape.right ≡ a.shape.right
  pub look : (j : ℕ) → j < c.shape.low → j ≢ k → b.look j ≡ a.look j
  pub right_look : (j : ℕ) → c.shape.low ≤ j → j ≢ k → c.look j ≡ a.look j
  pub here : k < c.shape.low → b.look k ≡ v
  pub right_here : c.shape.low ≤ k → c.look k ≡ v

-- b is a and its right neighbour c together
pub record IsJoin (a c b : Node) : Type 0 where
  pub level : b.shape.level ≡ a.shape.level
  pub low : b.shape.low ≡ a.shape.low
  pub end : b.shape.end ≡ c.shape.end
  pub right : b.shape.right ≡ c.shape.right
  pub look : (j : ℕ) → j < c.shape.low → b.look j ≡ a.look j
  pub right_look : (j : ℕ) → c.shape.low ≤ j → b.look j ≡ c.look j

-- b is a with the front of its right neighbour c, page y
pub record IsLeftGain (y : ℕ) (a c b : Node) : Type 0 where
  pub level : b.shape.level ≡ a.shape.level
  pub low : b.shape.low ≡ a.shape.low
  pub above : c.shape.low < b.shape.end
  pub below : b.shape.end < c.shape.end
  pub right : b.shape.right ≡ y
  pub look : (j : ℕ) → j < c.shape.low → b.look j ≡ a.look j
  pub right_look : (j : ℕ) → c.shape.low ≤ j → j < b.shape.end → b.look j ≡ c.look j

-- d is c without what its left neighbour b has gained of it
pub record IsRightLoss (b c d : Node) : Type 0 where
  pub level : d.shape.level ≡ c.shape.level
  pub low : d.shape.low ≡ b.shape.end
  pub end : d.shape.end ≡ c.shape.end
  pub right : d.shape.right ≡ c.shape.right
  pub look : (j : ℕ) → b.shape.end ≤ j → d.look j ≡ c.look j

-- d is c with the back of its left neighbour a
pub record IsRightGain (a c d : Node) : Type 0 where
  pub level : d.shape.level ≡ c.shape.level
  pub above : a.shape.low < d.shape.low
  pub below : d.shape.low < c.shape.low
  pub end : d.shape.end ≡ c.shape.end
  pub right : d.shape.right ≡ c.shape.right
  pub look : (j : ℕ) → d.shape.low ≤ j → j < c.shape.low → d.look j ≡ a.look j
  pub right_look : (j : ℕ) → c.shape.low ≤ j → d.look j ≡ c.look j

-- b is a without what its right neighbour d, page y, has gained of it
pub record IsLeftLoss (y : ℕ) (a d b : Node) : Type 0 where
  pub level : b.shape.level ≡ a.shape.level
  pub low : b.shape.low ≡ a.shape.low
  pub end : b.shape.end ≡ d.shape.low
  pub right : b.shape.right ≡ y
  pub look : (j : ℕ) → j < d.shape.low → b.look j ≡ a.look j

-- b is a, with the child y listed by the key new in place of the key old
pub record IsRelisted (y old new : ℕ) (a b : Node) : Type 0 where
  pub shape : b.shape ≡ a.shape
  pub old_covered : Covers a.shape old
  pub new_covered : Covers a.shape new
  pub differ : new ≢ old
  pub was : a.look old ≡ Some y
  pub gone : b.look old ≡ None
  pub here : b.look new ≡ Some y
  pub rest : (j : ℕ) → j ≢ old → j ≢ new → b.look j ≡ a.look j

-- Moves

-- page x is put, and its contents are then b; page 0 is another
pub record IsPut (x : ℕ) (b : Node) (t t' : Tree) : Type 0 where
  pub node : IsAt x b t.node t'.node
  pub roots : t'.roots ≡ t.roots

-- what a put leaves that changes no row of a map and no key by which a page is listed
pub record Stays (t t' : Tree) : Type 0 where
  pub sep : t'.sep ≡ t.sep
  pub map : t'.map ≡ t.map

-- A row of page x changes. On a level above 0 a child is listed, or one is dropped.
pub record ChangesRow (x k : ℕ) (v : Option ℕ) (b : Node) (t t' : Tree) : Type 0 where
  pub live : t.status x ≡ Live
  pub row : IsRow k v (t.node x) b
  pub child : MayList t (t.node x).shape.level k v
  pub put : IsPut x b t t'
  pub status : t'.status ≡ t.status
  pub sep : t'.sep ≡ t.sep
  pub map : IsMapRow (t.node x).shape.level k v t.map t'.map

-- A split: page x is put, which names the fresh page y; so y is in the tree. The pair of k changes at the same time.
pub record Splits (x y k : ℕ) (v : Option ℕ) (b : Node) (t t' : Tree) : Type 0 where
  pub live : t.status x ≡ Live
  pub fresh : t.status y ≡ Fresh
  pub cut : IsCut y k v (t.node x) b (t.node y)
  pub y_sep : t.sep y ≡ (t.node y).shape.low
  pub child : MayList t (t.node x).shape.level k v
  pub put : IsPut x b t t'
  pub status : IsAt y Live t.status t'.status
  pub sep : t'.sep ≡ t.sep
  pub map : IsMapRow (t.node x).shape.level k v t.map t'.map

-- Growth: page 0 is put, which names the fresh page y as the only page of a new top level. y lists the leftmost page below.
pub record Grows (top y : ℕ) (t t' : Tree) : Type 0 where
  pub fresh : t.status y ≡ Fresh
  pub room : t.roots.levels < 12
  pub level : (t.node y).shape.level ≡ t.roots.levels
  pub low : (t.node y).shape.low ≡ 0
  pub end : (t.node y).shape.end ≡ top
  pub right : (t.node y).shape.right ≡ 0
  pub y_sep : t.sep y ≡ 0
  pub none : (z : ℕ) → t.status z ≢ Uprooted
  pub first : (l : ℕ) → suc l ≡ t.roots.levels → (t.node y).look 0 ≡ Some (t.roots.leftmost l)
  pub only : (k : ℕ) → k ≢ 0 → (t.node y).look k ≡ None
  pub levels : t'.roots.levels ≡ suc t.roots.levels
  pub leftmost : IsAt t.roots.levels y t.roots.leftmost t'.roots.leftmost
  pub node : (z : ℕ) → z ≢ 0 → t'.node z ≡ t.node z
  pub status : IsAt y Live t.status t'.status
  pub sep : t'.sep ≡ t.sep
  pub map : IsAt t.roots.levels (t.node y).look t.map t'.map

-- The height falls: page 0 is put, and names the top level no longer. Its only page x is uprooted.
pub record Lowers (top x : ℕ) (t t' : Tree) : Type 0 where
  pub live : t.status x ≡ Live
  pub level : suc (t.node x).shape.level ≡ t.roots.levels
  pub above : 0 < (t.node x).shape.level
  pub low : (t.node x).shape.low ≡ 0
  pub end : (t.node x).shape.end ≡ top
  pub none : (z : ℕ) → t.status z ≢ Uprooted
  pub levels : t'.roots.levels ≡ (t.node x).shape.level
  pub leftmost : (l : ℕ) → l < (t.node x).shape.level → t'.roots.leftmost l ≡ t.roots.leftmost l
  pub node : (z : ℕ) → z ≢ 0 → t'.node z ≡ t.node z
  pub status : IsAt x Uprooted t.status t'.status
  pub stays : Stays t t'

-- Its last put: the uprooted page x is dead, and nothing is said of its level.
pub record Falls (x : ℕ) (d : Node) (t t' : Tree) : Type 0 where
  pub uprooted : t.status x ≡ Uprooted
  pub put : IsPut x d t t'
  pub status : IsAt x Gone t.status t'.status
  pub sep : t'.sep ≡ t.sep
  pub map : IsAt (t.node x).shape.level (λ k. None) t.map t'.map

-- A merge's first put: page x takes all of its right neighbour y.
pub record Joins (top x y : ℕ) (b : Node) (t t' : Tree) : Type 0 where
  pub live : t.status x ≡ Live
  pub right_live : t.status y ≡ Live
  pub bound : (t.node x).shape.end < top
  pub linked : (t.node x).shape.right ≡ y
  pub join : IsJoin (t.node x) (t.node y) b
  pub put : IsPut x b t t'
  pub status : IsAtTwo x y (Left y) (Right x) t.status t'.status
  pub stays : Stays t t'

-- A merge's last put: page y, which no page lists any more, is dead.
pub record Dies (x y : ℕ) (d : Node) (t t' : Tree) : Type 0 where
  pub left : t.status x ≡ Left y
  pub level : (t.node x).shape.level ≡ (t.node y).shape.level
  pub below : (t.node x).shape.low < (t.node y).shape.low
  pub end : (t.node x).shape.end ≡ (t.node y).shape.end
  pub right : (t.node x).shape.right ≡ (t.node y).shape.right
  pub unlisted : t.map (suc (t.node y).shape.level) (t.sep y) ≡ None
  pub put : IsPut y d t t'
  pub status : IsAtTwo x y Live Gone t.status t'.status
  pub stays : Stays t t'

-- An evening's first put, to the left: page x takes the front of its right neighbour y.
pub record GainsLeft (top x y : ℕ) (b : Node) (t t' : Tree) : Type 0 where
  pub live : t.status x ≡ Live
  pub right_live : t.status y ≡ Live
  pub bound : (t.node x).shape.end < top
  pub linked : (t.node x).shape.right ≡ y
  pub gain : IsLeftGain y (t.node x) (t.node y) b
  pub put : IsPut x b t t'
  pub status : IsAtTwo x y (Left y) (Right x) t.status t'.status
  pub stays : Stays t t'

-- Its last put: page y, which is listed by the bound of x now, loses what x has gained.
pub record LosesRight (x y : ℕ) (d : Node) (t t' : Tree) : Type 0 where
  pub left : t.status x ≡ Left y
  pub level : (t.node x).shape.level ≡ (t.node y).shape.level
  pub below : (t.node x).shape.low < (t.node y).shape.low
  pub meets : (t.node y).shape.low < (t.node x).shape.end
  pub inner : (t.node x).shape.end < (t.node y).shape.end
  pub linked : (t.node x).shape.right ≡ y
  pub y_sep : t.sep y ≡ (t.node x).shape.end
  pub loss : IsRightLoss (t.node x) (t.node y) d
  pub put : IsPut y d t t'
  pub status : IsAtTwo x y Live Live t.status t'.status
  pub stays : Stays t t'

-- An evening's first put, to the right: page y takes the back of its left neighbour x.
pub record GainsRight (top x y : ℕ) (d : Node) (t t' : Tree) : Type 0 where
  pub live : t.status x ≡ Live
  pub right_live : t.status y ≡ Live
  pub bound : (t.node x).shape.end < top
  pub linked : (t.node x).shape.right ≡ y
  pub gain : IsRightGain (t.node x) (t.node y) d
  pub put : IsPut y d t t'
  pub status : IsAtTwo x y (Left y) (Right x) t.status t'.status
  pub stays : Stays t t'

-- Its last put: page x loses what y has gained. y is listed by its own low now.
pub record LosesLeft (x y : ℕ) (b : Node) (t t' : Tree) : Type 0 where
  pub left : t.status x ≡ Left y
  pub level : (t.node x).shape.level ≡ (t.node y).shape.level
  pub below : (t.node x).shape.low < (t.node y).shape.low
  pub meets : (t.node y).shape.low ≤ (t.node x).shape.end
  pub y_sep : t.sep y ≡ (t.node y).shape.low
  pub loss : IsLeftLoss y (t.node x) (t.node y) b
  pub put : IsPut x b t t'
  pub status : IsAtTwo x y Live Live t.status t'.status
  pub stays : Stays t t'

-- The parent's put of an evening: page p lists y by the key e now, and no longer by its low of before.
pub record Relists (p x y e : ℕ) (q : Node) (t t' : Tree) : Type 0 where
  pub live : t.status p ≡ Live
  pub right : t.status y ≡ Right x
  pub level : (t.node p).shape.level ≡ suc (t.node y).shape.level
  pub above : 0 < (t.node y).shape.low
  pub low : (t.node y).shape.low ≤ e
  pub relisted : IsRelisted y (t.sep y) e (t.node p) q
  pub put : IsPut p q t t'
  pub status : t'.status ≡ t.status
  pub sep : IsAt y e t.sep t'.sep
  pub gone : t'.map (t.node p).shape.level (t.sep y) ≡ None
  pub here : t'.map (t.node p).shape.level e ≡ Some y
  pub rest : (k : ℕ) → k ≢ t.sep y → k ≢ e → t'.map (t.node p).shape.level k ≡ t.map (t.node p).shape.level k
  pub others : (l : ℕ) → l ≢ (t.node p).shape.level → t'.map l ≡ t.map l

-- A page that is not in the tree changes: it is taken, put while it is fresh, retired or released.
pub record Aside (x : ℕ) (t t' : Tree) : Type 0 where
  pub dead : is_live (t.status x) ≡ false
  pub dead_after : is_live (t'.status x) ≡ false
  pub other : x ≢ 0
  pub node : (z : ℕ) → z ≢ x → t'.node z ≡ t.node z
  pub status : (z : ℕ) → z ≢ x → t'.status z ≡ t.status z
  pub sep : (z : ℕ) → z ≢ x → t'.sep z ≡ t.sep z
  pub roots : t'.roots ≡ t.roots
  pub map : t'.map ≡ t.map
