-- A turn of one process: what it was told, what that event did to the pages, and the world after it.
use Rattle.std.specs.Prelude.{◌≡◌, ℕ, ◌<◌, ◌≤◌, Bool, true, false, Option}
use Rattle.bl_model.specs.declared.operation.Reply.{Reply}
use Rattle.bl_page.specs.declared.page.Page.{Page}
use Rattle.bl_page.specs.declared.machine.Missed.{Missed}
use Rattle.bl_page.specs.declared.machine.Missed.TheVariants as missed
use Rattle.bl_page.specs.Machine.{Name, Owner, State, Act, Changes}
use Rattle.bl_page.specs.Machine.Owner.{Released, Retired}
use Rattle.bl_page.specs.Machine.Phase.{Running}
use Rattle.bl_page.specs.Machine.Looked.{Process, Page as OfPage}
use Rattle.bl_page.specs.Machine.Act.{Begin, End, Get, Put, Take, Latch, Retire, Look, Release, Miss}
use Rattle.bl_claims.specs.Trails.{Said}
use Rattle.bl_tree_worlds.specs.Worlds.{Know, World, IsGood, Extends}
use Rattle.bl_proc_steps.specs.declared.acts.Action.{Action}
use Rattle.bl_proc_steps.specs.declared.acts.Action.TheVariants as act
use Rattle.bl_proc_steps.specs.declared.acts.Seen.{Seen}
use Rattle.bl_proc_steps.specs.declared.acts.Seen.TheVariants as seen

-- the process with that number, where processes are numbered
abbrev pub numbered : ℕ → Name
numbered number = record { pass = number; number = 0 }

-- what was missed, where an action gave no more than that
abbrev pub missed_by : Action → Seen → Missed
missed_by action seen.Refused = missed.Reservation
missed_by (act.Latch x) what = missed.Latch x
missed_by (act.Release x) what = missed.Release x
missed_by action what = missed.Turn

-- The event of an action that gave this. An end carries the reply of the operation, if the process has one.
abbrev pub event_of : Option Reply → Action → Seen → Act Page Reply
event_of reply act.Begin seen.Done = Begin
event_of reply act.End seen.Done = End reply
event_of reply (act.Get x) (seen.Words c) = Get x
event_of reply (act.Put x c) seen.Done = Put x c
event_of reply (act.Latch x) seen.Done = Latch x
event_of reply act.Take (seen.Took y) = Take y
event_of reply (act.Open x) seen.Done = Act.Open x
event_of reply (act.Retire x) seen.Done = Retire x
event_of reply (act.Look q) (seen.Blocks blocks) = Look (Process (numbered q))
event_of reply (act.See x) (seen.Owner retired started own) = Look (OfPage x)
event_of reply (act.Probe x) (seen.Probed free) = Look (OfPage x)
event_of reply (act.Release x) seen.Done = Release x
event_of reply action what = Miss (missed_by action what)

-- What it was told is true of the pages. Whether a page may be got, put or opened is not asked: the process knows it.
abbrev pub IsObserved : State Page → ℕ → Action → Seen → Type 0
IsObserved s size (act.Get x) (seen.Words c) = c ≡ s.contents x
IsObserved s size (act.Latch x) seen.Done = s.owner x ≡ Owner.Open
IsObserved s size (act.Probe x) (seen.Probed free) = free ≡ true → s.owner x ≡ Owner.Open
IsObserved s size act.Take (seen.Took y) = (s.owner y ≡ Released) × (y < size)
IsObserved s size action what = Unit {0}

-- What p was told of the owner of x: if that is retired, the page is; and each process that runs has a number up to that of
-- the last that was started.
pub record IsOwnerShown (s : State Page) (p : Name) (x : ℕ) (retired : Bool) (started own : ℕ) : Type 0 where
  pub is_retired : retired ≡ true → (time : ℕ) × (s.owner x ≡ Retired time)
  pub is_own : p ≡ numbered own
  pub among : (q : Name) (since : ℕ) → s.phase q ≡ Running since → (number : ℕ) × (0 < number) × (number ≤ started) × (q ≡ numbered number)

-- What it was told of owners and of processes is true, where it saw a page retired at that time: a process that does not
-- block, if it runs, began after that; and a page that is released is retired since then.
abbrev pub IsShown : State Page → Name → ℕ → Action → Seen → Type 0
IsShown s p time (act.See x) (seen.Owner retired started own) = IsOwnerShown s p x retired started own
IsShown s p time (act.Look q) (seen.Blocks blocks) = blocks ≡ false → (since : ℕ) → s.phase (numbered q) ≡ Running since → time < since
IsShown s p time (act.Release x) seen.Done = s.owner x ≡ Retired time
IsShown s p time action what = Unit {0}

-- what an event of p does to the pages
pub record Does (s : State Page) (p : Name) (a : Act Page Reply) (s' : State Page) : Type 0 where
  pub changes : Changes s p a s'
  pub on : s.clock ≤ s'.clock

-- The world after an event of p, which is then b: it is good, and its trail has one mark more, with what the event saw and
-- what operation has its point there.
pub record Turned {P : Type 0} (know : P → Know) (w : World P) (p : Name) (a : Act Page Reply) (s : State Page) (b : P) : Type 0 where
  pub next : World P
  pub saw : Option Page
  pub said : Option Said
  pub extends : Extends w next (record { event = record { process = p; act = a }; saw = saw; said = said }) b
  pub now : next.now ≡ s
  pub good : IsGood know next
