-- What a turn does to a world, and what a list of turns does.
use Rattle.std.specs.Prelude.{◌≡◌, ◌≢◌, ◌⊎◌, ℕ, ◌<◌, ◌≤◌, ◌+◌, ◌++◌, ◌↔◌, Bool, IsTrue, Some, None, IsSome, List, [], ◌∷◌, length, slice_get, slice_set}
use Rattle.bl_page.specs.declared.page.Page.{Page}
use Rattle.bl_proc_steps.specs.declared.acts.Action.{Action}
use Rattle.bl_proc_steps.specs.declared.acts.Action.TheVariants as act
use Rattle.bl_proc_steps.specs.declared.acts.Seen.{Seen}
use Rattle.bl_proc_steps.specs.declared.acts.Seen.TheVariants as seen
use Rattle.bl_proc.specs.declared.kinds.Proc.{Proc}
use Rattle.bl_proc.specs.declared.kinds.Proc.TheVariants as proc
use Rattle.bl_proc.specs.Processes.{next_of, needs_of, answer_of, Takes}
use Rattle.bl_world.specs.declared.turns.Act.{Act}
use Rattle.bl_world.specs.declared.turns.Act.TheVariants as shown
use Rattle.bl_world.specs.declared.turns.Turn.{Turn}
use Rattle.bl_world.specs.declared.turns.Turn.TheVariants as turn
use Rattle.bl_world.specs.declared.owners.Owner.{Owner}
use Rattle.bl_world.specs.declared.owners.Owner.TheVariants as own
use Rattle.bl_world.specs.Views.{View, is_retired, is_open, number_in}
use Rattle.bl_world.specs.Retirements.{HasSeen, Blocks}

-- A step is fit where the process has not answered and is not to take a page, and a take where it is to take one.
abbrev pub MayStep : Proc → Type 0
MayStep p = (answer_of p ≡ None) × (next_of p ≢ act.Take)

abbrev pub MayTake : Proc → Type 0
MayTake p = (answer_of p ≡ None) × (next_of p ≡ act.Take)

-- A refusal is fit where the process is about to reserve pages or frames for what it does next.
abbrev pub MayRefuse : Proc → Type 0
MayRefuse p = (answer_of p ≡ None) × IsSome (needs_of p)

-- a page that nobody uses; page 0 is never taken
abbrev pub IsFree : View → ℕ → Type 0
IsFree v x = (0 < x) × (slice_get v.owners x ≡ Some own.Released)

-- What becomes of pages and owners: both stay; one page is put; one page gets another owner.
abbrev pub Stays : View → View → Type 0
Stays v v' = (v'.pages ≡ v.pages) × (v'.owners ≡ v.owners)

abbrev pub Puts : View → ℕ → Page → View → Type 0
Puts v x c v' = (v'.pages ≡ slice_set v.pages x c) × (v'.owners ≡ v.owners)

abbrev pub Owns : View → ℕ → Owner → View → Type 0
Owns v x owner v' = (v'.pages ≡ v.pages) × (v'.owners ≡ slice_set v.owners x owner)

-- The process at place n, which is p, goes on by what it was told, all others stay as they are, and that act of it is
-- recorded.
pub record Tells (v : View) (n : ℕ) (p : Proc) (act : Act) (what : Seen) (v' : View) : Type 0 where
  pub new : Proc
  pub takes : Takes p what new
  pub processes : v'.processes ≡ slice_set v.processes n new
  pub events : v'.events ≡ v.events ++ record { process = n + 1; act = act } ∷ []

-- A turn that is not fit is a miss, and changes nothing.
abbrev pub Idles : View → ℕ → View → Type 0
Idles v n v' = v' ≡ record v { events = v.events ++ record { process = n + 1; act = shown.Miss } ∷ [] }

-- it is to release that page
abbrev pub IsToRelease : Proc → ℕ → Type 0
IsToRelease (proc.Reclaim p) x = p.page ≡ x
IsToRelease p x = ⊥

-- the page is retired as the process at place n has seen it
abbrev pub MayRelease : View → ℕ → ℕ → Type 0
MayRelease v n x = (k : ℕ) × HasSeen v.events (n + 1) x k (length v.events) × (slice_get v.owners x ≡ Some (own.Retired k))

-- What the process at place n does by its next action. The event is the one that the action names. Only a latch or a
-- release can be missed: where the page is not open, or is not retired as the process has seen it, the event is a miss,
-- which the process is told. A look tells whether that other process blocks what the process has seen retired. What it retires
-- is retired since this event.
abbrev pub Carries : View → ℕ → Proc → Action → View → Type 0
Carries v n p act.Begin v' = Stays v v' × Tells v n p shown.Begin seen.Done v'
Carries v n p act.End v' = Stays v v' × Tells v n p shown.End seen.Done v'
Carries v n p (act.Get x) v' = (c : Page) × (slice_get v.pages x ≡ Some c) × Stays v v' × Tells v n p (shown.Get x) (seen.Words c) v'
Carries v n p (act.Put x c) v' = Puts v x c v' × Tells v n p (shown.Put x) seen.Done v'
Carries v n p (act.Latch x) v' =
    ((slice_get v.owners x ≡ Some own.Open) × Owns v x (own.Held (n + 1)) v' × Tells v n p (shown.Latch x) seen.Done v')
    ⊎ ((slice_get v.owners x ≢ Some own.Open) × Stays v v' × Tells v n p shown.Miss seen.Missed v')
Carries v n p (act.Open x) v' = Owns v x own.Open v' × Tells v n p (shown.Open x) seen.Done v'
Carries v n p act.Take v' = ⊥
Carries v n p (act.Retire x) v' = Owns v x (own.Retired (length v.events)) v' × Tells v n p (shown.Retire x) seen.Done v'
Carries v n p (act.Look q) v' =
    (x : ℕ) × (k : ℕ) × (blocks : Bool) × IsToRelease p x × HasSeen v.events (n + 1) x k (length v.events)
    × (IsTrue blocks ↔ Blocks v.events q k (length v.events)) × Stays v v' × Tells v n p (shown.Look q) (seen.Blocks blocks) v'
Carries v n p (act.See x) v' =
    (o : Owner) × (slice_get v.owners x ≡ Some o) × Stays v v' × Tells v n p (shown.See x) (seen.Owner (is_retired o) (length v.processes) (n + 1)) v'
Carries v n p (act.Probe x) v' = Stays v v' × Tells v n p (shown.See x) (seen.Probed (is_open (slice_get v.owners x))) v'
Carries v n p (act.Release x) v' =
    (MayRelease v n x × Owns v x own.Released v' × Tells v n p (shown.Release x) seen.Done v')
    ⊎ ((¬ MayRelease v n x) × Stays v v' × Tells v n p shown.Miss seen.Missed v')

-- The three kinds of turn of the process at place n, which is p.
abbrev pub StepsTo : View → ℕ → Proc → View → Type 0
StepsTo v n p v' = (MayStep p × Carries v n p (next_of p) v') ⊎ ((¬ MayStep p) × Idles v n v')

abbrev pub TakesTo : View → ℕ → Proc → ℕ → View → Type 0
TakesTo v n p x v' = (MayTake p × IsFree v x × Owns v x (own.Held (n + 1)) v' × Tells v n p (shown.Take x) (seen.Took x) v')
    ⊎ ((¬ (MayTake p × IsFree v x)) × Idles v n v')

abbrev pub RefusesTo : View → ℕ → Proc → View → Type 0
RefusesTo v n p v' = (MayRefuse p × Stays v v' × Tells v n p shown.Miss seen.Refused v') ⊎ ((¬ MayRefuse p) × Idles v n v')

abbrev pub TurnsAt : View → ℕ → Proc → Turn → View → Type 0
TurnsAt v n p (turn.Step number) v' = StepsTo v n p v'
TurnsAt v n p (turn.Take number x) v' = TakesTo v n p x v'
TurnsAt v n p (turn.Refuse number) v' = RefusesTo v n p v'

-- One turn.
pub record TurnsTo (v : View) (turn : Turn) (v' : View) : Type 0 where
  pub place : ℕ
  pub number : number_in turn ≡ place + 1
  pub process : Proc
  pub stood : slice_get v.processes place ≡ Some process
  pub does : TurnsAt v place process turn v'

-- A list of turns, one after the other.
abbrev pub RunsTo : View → List Turn → View → Type 0
RunsTo v [] v' = v' ≡ v
RunsTo v (turn ∷ turns) v' = (mid : View) × TurnsTo v turn mid × RunsTo mid turns v'

-- a process with that number was started
abbrev pub IsStarted : View → ℕ → Type 0
IsStarted v number = (0 < number) × (number ≤ length v.processes)

-- so were those of all these turns
abbrev pub AllStarted : View → List Turn → Type 0
AllStarted v turns = (i : ℕ) (turn : Turn) → slice_get turns i ≡ Some turn → IsStarted v (number_in turn)

-- Memory failed: all turns before some turn of the list were carried out, and nothing else.
abbrev pub RunsInto : View → List Turn → View → Type 0
RunsInto v turns v' = (before : List Turn) × (next : Turn) × (after : List Turn) × (turns ≡ before ++ next ∷ after) × RunsTo v before v'

-- a turn of the list is of a process that was not started
abbrev pub HasUnknown : View → List Turn → Type 0
HasUnknown v turns = (i : ℕ) × (turn : Turn) × (slice_get turns i ≡ Some turn) × (¬ IsStarted v (number_in turn))
