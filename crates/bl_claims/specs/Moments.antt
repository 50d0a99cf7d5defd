-- Which pages are in the tree at a moment, and which are in the middle of a compression. Both are told by the owners and by
-- what their holders have done.
use Rattle.std.specs.Prelude.{◌≡◌, ◌≢◌, ◌⊎◌, ℕ, ◌<◌, ◌++◌, ◌∷◌, Contains}
use Rattle.bl_model.specs.declared.operation.Reply.{Reply}
use Rattle.bl_page.specs.declared.page.Page.{Page}
use Rattle.bl_page.specs.Machine.{Name, Owner, State, Act}
use Rattle.bl_page.specs.Machine.Owner.{Held}
use Rattle.bl_model.specs.Map.{Map}
use Rattle.bl_claims.specs.Snapshots.{Snapshot}
use Rattle.bl_page.specs.Nodes.{unbounded, node_of, roots_of, IsTreePage}
use Rattle.bl_claims.specs.Laws.{Agreement, Overlap, HasChain, Listing}
use Rattle.bl_claims.specs.Walks.{HasLoneWalk}
use Rattle.bl_claims.specs.Trails.{Mark, Trail, marks_of}

-- one of these puts the page
pub record Puts (marks : Trail) (x : ℕ) : Type 0 where
  pub mark : Mark
  pub is : Contains marks mark
  pub page : Page
  pub act : mark.event.act ≡ Act.Put x page

-- what a process did after an act: it was not done again
pub record After (marks : Trail) (Last : Act Page Reply → Type 0) : Type 0 where
  pub before : Trail
  pub last : Mark
  pub since : Trail
  pub split : marks ≡ before ++ last ∷ since
  pub is : Last last.event.act
  pub never_again : (mark : Mark) → Contains since mark → Last mark.event.act → ⊥

-- an act by which a process gets hold of page y
abbrev pub IsGain : ℕ → Act Page Reply → Type 0
IsGain y a = (a ≡ Act.Take y) ⊎ (a ≡ Act.Latch y)

-- these are the marks of a process that last got hold of the page by taking it, and has put no other page since
pub record IsFreshBy (marks : Trail) (y : ℕ) : Type 0 where
  pub gained : After marks (IsGain y)
  pub by_take : gained.last.event.act ≡ Act.Take y
  pub put_no_other : (x : ℕ) → x ≢ y → Puts gained.since x → ⊥

-- Fresh: a process holds the page since it took it, and has put no other page since. So no page names it yet.
pub record IsFresh (s : State Page) (trail : Trail) (y : ℕ) : Type 0 where
  pub holder : Name
  pub held : s.owner y ≡ Held holder
  pub by : IsFreshBy (marks_of holder trail) y

-- Live: open or held, a leaf or an inner page, and not fresh.
pub record IsLivePage (s : State Page) (trail : Trail) (x : ℕ) : Type 0 where
  pub owned : (s.owner x ≡ Owner.Open) ⊎ ((p : Name) × (s.owner x ≡ Held p))
  pub kind : IsTreePage (s.contents x)
  pub named : IsFresh s trail x → ⊥

abbrev pub IsLatch : Act Page Reply → Type 0
IsLatch a = (x : ℕ) × (a ≡ Act.Latch x)

-- one of these puts page x, and none puts page y
abbrev pub PutsOnly : Trail → ℕ → ℕ → Type 0
PutsOnly marks x y = Puts marks x × (¬ Puts marks y)

-- these are the marks of a process that has put one of the pages and not the other since it last latched a page
pub record IsMiddleBy (marks : Trail) (x y : ℕ) : Type 0 where
  pub latched : After marks IsLatch
  pub put_one : PutsOnly latched.since x y ⊎ PutsOnly latched.since y x

-- One process holds both pages and is between the first put and the last of one compression.
pub record InMiddle (s : State Page) (trail : Trail) (x y : ℕ) : Type 0 where
  pub holder : Name
  pub held : s.owner x ≡ Held holder
  pub held_right : s.owner y ≡ Held holder
  pub by : IsMiddleBy (marks_of holder trail) x y

-- The same of an evening, after which both pages stay: the left one still links to the right one.
pub record InEvening (s : State Page) (trail : Trail) (y : ℕ) : Type 0 where
  pub left : ℕ
  pub linked : (node_of (s.contents left)).shape.right ≡ y
  pub middle : InMiddle s trail left y

-- the tree at that moment
abbrev pub snapshot_of : State Page → Trail → Snapshot
snapshot_of s trail = record {
  live = IsLivePage s trail;
  node = λ x. node_of (s.contents x);
  roots = roots_of (s.contents 0);
  middle = InMiddle s trail;
  evened = InEvening s trail;
}

-- The laws of the tree: its live leaves agree with the map, live pages overlap only in the middle of a compression, each level
-- has its chain, children are listed as they are, and the lone walk of each key finds its leaf.
pub record HasLaws (t : Snapshot) (map : Map) : Type 0 where
  pub agreement : Agreement t map
  pub overlap : Overlap t
  pub chains : (level : ℕ) → level < t.roots.levels → HasChain t level
  pub listing : Listing t
  pub walks : (k : ℕ) → k < unbounded → HasLoneWalk t k
