-- What the user of a world does with it, and where that leads.
use Rattle.std.specs.Prelude.{◌≡◌, ◌⊎◌, ℕ, ◌<◌, ◌+◌, ◌++◌, Some, List, [], ◌∷◌, length, slice_get}
use Rattle.bl_page.specs.declared.page.Page.{Page}
use Rattle.bl_page.specs.declared.page.Page.TheVariants.{Leaf}
use Rattle.bl_proc_steps.specs.declared.acts.Action.TheVariants as act
use Rattle.bl_page.specs.Tops.{IsAnchor}
use Rattle.bl_proc.specs.declared.kinds.Proc.{Proc}
use Rattle.bl_proc.specs.Processes.{next_of, IsReclaim}
use Rattle.bl_world.specs.declared.turns.Turn.{Turn}
use Rattle.bl_world.specs.declared.turns.Turn.TheVariants as turn
use Rattle.bl_world.specs.declared.owners.Owner.{Owner}
use Rattle.bl_world.specs.declared.owners.Owner.TheVariants as own
use Rattle.bl_world.specs.Views.{View}
use Rattle.bl_world.specs.Turns.{MayRefuse, TurnsTo}

-- a leaf that covers every key and has no row
abbrev pub IsEmptyLeaf : Page → Type 0
IsEmptyLeaf (Leaf l) = (l.low ≡ 0) × (l.high ≡ 0) × (l.right ≡ 0) × (l.rows.items ≡ [])
IsEmptyLeaf page = ⊥

-- that many pages, all of them empty leaves
abbrev pub AreEmptyLeaves : ℕ → List Page → Type 0
AreEmptyLeaves count pages = (length pages ≡ count) × ((x : ℕ) (c : Page) → slice_get pages x ≡ Some c → IsEmptyLeaf c)

-- that many owners, all of them none
abbrev pub AreReleased : ℕ → List Owner → Type 0
AreReleased count owners = (length owners ≡ count) × ((x : ℕ) (o : Owner) → slice_get owners x ≡ Some o → o ≡ own.Released)

-- The opening index of that many pages: page 0 names one level, whose only page is page 1, an empty leaf that covers every
-- key. These two are open, and all others released. No process was started, and nothing has happened.
pub record IsOpening (size : ℕ) (v : View) : Type 0 where
  pub count : length v.pages ≡ size
  pub owners : length v.owners ≡ size
  pub anchor : (c : Page) × (slice_get v.pages 0 ≡ Some c) × IsAnchor (1 ∷ []) c
  pub leaf : (c : Page) × (slice_get v.pages 1 ≡ Some c) × IsEmptyLeaf c
  pub anchor_open : slice_get v.owners 0 ≡ Some own.Open
  pub leaf_open : slice_get v.owners 1 ≡ Some own.Open
  pub others : (x : ℕ) → 1 < x → x < size → slice_get v.owners x ≡ Some own.Released
  pub processes : v.processes ≡ []
  pub events : v.events ≡ []

-- A process may be started that is to begin, or that is to release a page of the world, and has done nothing yet.
abbrev pub MayStart : View → Proc → Type 0
MayStart v p = (next_of p ≡ act.Begin) ⊎ ((x : ℕ) × (x < length v.pages) × IsReclaim x p)

-- It starts such a process, or gives one a turn.
pub data WorldStep : Type 0 where
  Starting : Proc → WorldStep
  Turning : Turn → WorldStep

-- One more process stands there, after all others.
abbrev pub Starts : View → Proc → View → Type 0
Starts v p v' = v' ≡ record v { processes = v.processes ++ p ∷ [] }

abbrev pub DoneTo : View → WorldStep → View → Type 0
DoneTo v (Starting p) v' = MayStart v p × Starts v p v'
DoneTo v (Turning t) v' = TurnsTo v t v'

-- deeds in their order
abbrev pub LeadsTo : View → List WorldStep → View → Type 0
LeadsTo v [] v' = v' ≡ v
LeadsTo v (world_step ∷ world_steps) v' = (mid : View) × DoneTo v world_step mid × LeadsTo mid world_steps v'

-- how many of them are turns
abbrev pub turns_in : List WorldStep → ℕ
turns_in [] = 0
turns_in (Starting p ∷ world_steps) = turns_in world_steps
turns_in (Turning t ∷ world_steps) = turns_in world_steps + 1

-- How a world came to be: from an opening index, by these deeds.
pub record Way (v : View) : Type 0 where
  pub size : ℕ
  pub opened : View
  pub opening : IsOpening size opened
  pub world_steps : List WorldStep
  pub led : LeadsTo opened world_steps v

-- One of the deeds was to refuse the process at place n what it was about to reserve.
pub record WasRefused (opened : View) (world_steps : List WorldStep) (n : ℕ) : Type 0 where
  pub before : List WorldStep
  pub after : List WorldStep
  pub split : world_steps ≡ before ++ Turning (turn.Refuse (n + 1)) ∷ after
  pub then : View
  pub led : LeadsTo opened before then
  pub process : Proc
  pub stood : slice_get then.processes n ≡ Some process
  pub fit : MayRefuse process
