-- A world: pages, processes of any kind, and the trail that led to them. The invariant speaks of each process by what it
-- knows: the pages that it holds, those that it may go to, what it has said and done. A kind of process P comes with a
-- table, know, from its states to what they know.
use Rattle.std.specs.Prelude.{◌≡◌, ◌≢◌, ◌⊎◌, ℕ, suc, ◌<◌, ◌≤◌, ◌++◌, Bool, true, false, Option, Some, None, List, [], ◌∷◌}
use Rattle.bl_model.specs.Map.{Map, MayAnswer, map_step}
use Rattle.bl_model.specs.History.{IsLegalFrom, final_map}
use Rattle.bl_model.specs.declared.operation.Reply.{Reply}
use Rattle.bl_page.specs.declared.page.Page.{Page}
use Rattle.bl_page.specs.Machine.{Name, Owner, Phase, State, Act, IsAt, Steps}
use Rattle.bl_page.specs.Machine.Owner.{Released, Held, Retired}
use Rattle.bl_page.specs.Machine.Phase.{Waiting, Running, Ended}
use Rattle.bl_page.specs.Nodes.{Node, Covers, unbounded, node_of, roots_of}
use Rattle.bl_claims.specs.Walks.{Each}
use Rattle.bl_tree.specs.Trees.{Status, IsLive, Tree, IsTree}
use Rattle.bl_tree.specs.Trees.Status.{Free, Fresh, Live, Left, Right, Uprooted, Gone, Anchored}
use Rattle.bl_claims.specs.Trails.{Said, Mark, Trail, history_of, IsMarked, Saw, LeadsOn, IsPhase, HasSaid}
use Rattle.bl_claims.specs.Moments.{IsFresh}

-- What a process knows

-- a page that it holds: where it stands, and if it knows them the key by which it is listed and what it holds
pub record Hold : Type 0 where
  pub at : ℕ
  pub status : Status
  pub sep : Option ℕ
  pub page : Option Page

-- a page that it may get or latch next, of a level within these bounds
pub record Goes : Type 0 where
  pub page : ℕ
  pub least : ℕ
  pub most : ℕ

-- a page that it is about to list in a page that it holds
pub record Child : Type 0 where
  pub parent : ℕ
  pub at : ℕ
  pub key : ℕ

-- the pages of a compression that it is in the middle of
pub record Middle : Type 0 where
  pub parent : ℕ
  pub left : ℕ
  pub right : ℕ

-- every process that runs began after that time, but for those that are still to be looked at: they are numbered from next up
-- to last, and own is not among them
pub record Passed : Type 0 where
  pub time : ℕ
  pub next : ℕ
  pub last : ℕ
  pub own : ℕ

abbrev pub IsAhead : Passed → Name → Type 0
IsAhead s q = (q.number ≡ 0) × (s.next ≤ q.pass) × (q.pass ≤ s.last) × (q.pass ≢ s.own)

pub data Stage : Type 0 where
  Early : Stage
  Busy : Stage
  Late : Stage

pub record Know : Type 1 where
  pub stage : Stage
  pub said : Option Said
  pub holds : List Hold
  pub goes : List Goes
  pub children : List Child
  pub middle : Option Middle
  pub passed : Option Passed
  -- what is true of its own data
  pub sound : Type 0

pub record World (P : Type 0) : Type 0 where
  pub start : State Page
  pub first : Map
  pub size : ℕ
  pub now : State Page
  pub trail : Trail
  pub proc : Name → P
  pub status : ℕ → Status
  pub sep : ℕ → ℕ
  pub map : ℕ → Map

abbrev pub nodes : State Page → ℕ → Node
nodes s x = node_of (s.contents x)

abbrev pub tree_of : {P : Type 0} → World P → Tree
tree_of w = record { node = nodes w.now; roots = roots_of (w.now.contents 0); status = w.status; sep = w.sep; map = w.map }

abbrev pub IsStage : Stage → Phase → Type 0
IsStage Early phase = phase ≡ Waiting
IsStage Busy phase = (since : ℕ) × (phase ≡ Running since)
IsStage Late phase = phase ≡ Ended

abbrev pub IfKnown : {A : Type 0} → Option A → A → Type 0
IfKnown None a = Unit {0}
IfKnown (Some b) a = a ≡ b

-- a page is in the tree or was, and is not yet released
unfoldable pub was_in : Status → Bool
was_in Free = false
was_in Fresh = false
was_in Live = true
was_in (Left y) = true
was_in (Right y) = true
was_in Uprooted = true
was_in Gone = true
was_in Anchored = false

-- p runs and may get the page: if it is retired, then since p began, so that it is not released before p ends
pub record MayGet {P : Type 0} (w : World P) (p : Name) (x : ℕ) : Type 0 where
  pub since : ℕ
  pub runs : w.now.phase p ≡ Running since
  pub was : was_in (w.status x) ≡ true
  pub kept : (time : ℕ) → w.now.owner x ≡ Retired time → since ≤ time

pub record IsHeld {P : Type 0} (w : World P) (p : Name) (h : Hold) : Type 0 where
  pub owner : w.now.owner h.at ≡ Held p
  pub status : w.status h.at ≡ h.status
  pub sep : IfKnown h.sep (w.sep h.at)
  pub page : IfKnown h.page (w.now.contents h.at)

pub record IsGoes {P : Type 0} (w : World P) (p : Name) (g : Goes) : Type 0 where
  pub may : MayGet w p g.page
  pub least : g.least ≤ (nodes w.now g.page).shape.level
  pub most : (nodes w.now g.page).shape.level ≤ g.most

pub record IsRelied {P : Type 0} (w : World P) (p : Name) (c : Child) : Type 0 where
  pub owner : w.now.owner c.parent ≡ Held p
  pub status : w.status c.parent ≡ Live
  pub covers : Covers (nodes w.now c.parent).shape c.key
  pub level : (nodes w.now c.parent).shape.level ≡ suc (nodes w.now c.at).shape.level
  pub alive : IsLive (w.status c.at)
  pub sep : w.sep c.at ≡ c.key

abbrev pub IsPassed : {P : Type 0} → World P → Option Passed → Type 0
IsPassed w None = Unit {0}
IsPassed w (Some s) = (s.time < w.now.clock) × ((q : Name) (since : ℕ) → (IsAhead s q → ⊥) → w.now.phase q ≡ Running since → s.time < since)

pub record IsSure {P : Type 0} (w : World P) (p : Name) (k : Know) : Type 0 where
  pub stage : IsStage k.stage (w.now.phase p)
  pub said : HasSaid w.trail p k.said
  pub holds : Each (IsHeld w p) k.holds
  pub goes : Each (IsGoes w p) k.goes
  pub children : Each (IsRelied w p) k.children
  pub passed : IsPassed w k.passed
  pub sound : k.sound

abbrev pub HoldsPage : List Hold → ℕ → Type 0
HoldsPage [] x = ⊥
HoldsPage (h ∷ hs) x = (h.at ≡ x) ⊎ HoldsPage hs x

-- A process is in the middle of a compression: it holds the right page and the parent, which covers the right page's low.
pub record HasMiddle {P : Type 0} (know : P → Know) (w : World P) (x y : ℕ) : Type 0 where
  pub by : Name
  pub parent : ℕ
  pub is : (know (w.proc by)).middle ≡ Some (record { parent = parent; left = x; right = y })
  pub held : w.now.owner y ≡ Held by
  pub parent_held : w.now.owner parent ≡ Held by
  pub parent_live : w.status parent ≡ Live
  pub parent_level : (nodes w.now parent).shape.level ≡ suc (nodes w.now y).shape.level
  pub parent_covers : Covers (nodes w.now parent).shape (nodes w.now y).shape.low

-- A dead page may lead to the left, to a page that is or was of its level, and whoever may get the one may get the other. Until
-- it is retired, one process holds both; so the page that it leads to is retired later, if it is, and dead pages lead in no
-- circle.
pub record LeadsLeft {P : Type 0} (w : World P) (x : ℕ) : Type 0 where
  pub leads : (p : Name) → MayGet w p x → MayGet w p (nodes w.now x).shape.right
      × ((nodes w.now (nodes w.now x).shape.right).shape.level ≡ (nodes w.now x).shape.level)
  pub not_yet : (q : Name) → w.now.owner x ≡ Held q → (w.now.owner (nodes w.now x).shape.right ≡ Held q) × IsLive (w.status (nodes w.now x).shape.right)
      × ((nodes w.now (nodes w.now x).shape.right).shape.level ≡ (nodes w.now x).shape.level)
  pub later : (p : Name) (time next : ℕ) → MayGet w p x → w.now.owner x ≡ Retired time → w.now.owner (nodes w.now x).shape.right ≡ Retired next → time < next

-- A dead page covers no key. It leads to the left, unless it was the top page of the tree: then it has no link, and was above the
-- leaves.
pub record IsGone {P : Type 0} (w : World P) (x : ℕ) : Type 0 where
  pub end : (nodes w.now x).shape.end ≡ 0
  pub above : (nodes w.now x).shape.right ≡ 0 → 0 < (nodes w.now x).shape.level
  pub left : (nodes w.now x).shape.right ≢ 0 → LeadsLeft w x

-- who makes the height fall holds the page that the anchor names no longer, and the anchor
pub record IsLowering {P : Type 0} (w : World P) (x : ℕ) : Type 0 where
  pub by : Name
  pub held : w.now.owner x ≡ Held by
  pub anchor_held : w.now.owner 0 ≡ Held by

-- owners and ghost statuses belong together
pub record AreOwned {P : Type 0} (know : P → Know) (w : World P) : Type 0 where
  pub released : (x : ℕ) → w.now.owner x ≡ Released → w.status x ≡ Free
  pub free : (x : ℕ) → w.status x ≡ Free → w.now.owner x ≡ Released
  pub opened : (x : ℕ) → w.now.owner x ≡ Owner.Open → (w.status x ≡ Live) ⊎ (w.status x ≡ Anchored)
  pub retired : (x time : ℕ) → w.now.owner x ≡ Retired time → (w.status x ≡ Gone) × (time < w.now.clock)
  pub held : (x : ℕ) (p : Name) → w.now.owner x ≡ Held p → HoldsPage (know (w.proc p)).holds x
  pub small : (x : ℕ) → w.status x ≢ Free → x < w.size
  pub one_anchor : (x : ℕ) → w.status x ≡ Anchored → x ≡ 0
  pub uprooted : (x : ℕ) → w.status x ≡ Uprooted → IsLowering w x

-- the trail tells what happened
pub record IsRecorded {P : Type 0} (w : World P) : Type 0 where
  pub leads : LeadsOn w.start w.trail w.now
  pub marked : IsMarked w.trail
  pub phases : (p : Name) → IsPhase w.trail p (w.now.phase p)
  pub legal : IsLegalFrom w.first (history_of w.trail)
  pub map : (k : ℕ) → w.map 0 k ≡ final_map w.first (history_of w.trail) k
  pub since : (p : Name) (since : ℕ) → w.now.phase p ≡ Running since → since ≤ w.now.clock

-- fresh pages are fresh by the trail, and live ones are not
pub record AreNamed {P : Type 0} (w : World P) : Type 0 where
  pub fresh : (y : ℕ) → w.status y ≡ Fresh → IsFresh w.now w.trail y
  pub named : (y : ℕ) → IsLive (w.status y) → IsFresh w.now w.trail y → ⊥

-- the map has no key above those that the tree may cover
abbrev pub IsBounded : Map → Type 0
IsBounded m = (k v : ℕ) → m k ≡ Some v → k < unbounded

pub record IsGood {P : Type 0} (know : P → Know) (w : World P) : Type 0 where
  pub tree : IsTree unbounded (tree_of w)
  pub owned : AreOwned know w
  pub recorded : IsRecorded w
  pub bounded : IsBounded (w.map 0)
  pub names : AreNamed w
  pub gone : (x : ℕ) → w.status x ≡ Gone → IsGone w x
  pub middles : (x y : ℕ) → w.status y ≡ Right x → HasMiddle know w x y
  pub sure : (p : Name) → IsSure w p (know (w.proc p))

-- what the map has to do with what is said at an event
abbrev pub MapsTo : Map → Map → Option Said → Type 0
MapsTo m m' None = (k : ℕ) → m' k ≡ m k
MapsTo m m' (Some said) = MayAnswer m said.op said.reply × ((k : ℕ) → m' k ≡ map_step said.op said.reply m k)

-- an event at which nothing is seen and nothing said
abbrev pub silent : Name → Act Page Reply → Mark
silent p act = record { event = record { process = p; act = act }; saw = None; said = None }

-- a put, at which an operation may have its point
abbrev pub put_mark : Name → ℕ → Page → Option Said → Mark
put_mark p x c said = record { event = record { process = p; act = Act.Put x c }; saw = None; said = said }

-- One event of p, after which p is b. The trail has one mark more, of that event.
pub record Extends {P : Type 0} (w w' : World P) (m : Mark) (b : P) : Type 0 where
  pub start : w'.start ≡ w.start
  pub first : w'.first ≡ w.first
  pub size : w'.size ≡ w.size
  pub steps : Steps w.now m.event w'.now
  pub saw : Saw w.now m.event.act m.saw
  pub trail : w'.trail ≡ w.trail ++ m ∷ []
  pub proc : IsAt m.event.process b w.proc w'.proc
