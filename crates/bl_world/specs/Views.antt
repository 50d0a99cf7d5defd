-- What stands in a world at one moment, and what it is in the terms of the page machine.
use Rattle.std.specs.Prelude.{ℕ, Bool, true, false, Option, None, Some, List, [], ◌∷◌}
use Rattle.bl_model.specs.declared.operation.Reply.{Reply}
use Rattle.bl_page.specs.declared.page.Page.{Page}
use Rattle.bl_page.specs.Machine.{Name, Event as MachineEvent, Act as MachineAct, Owner as MachineOwner}
use Rattle.bl_page.specs.Machine.Act.{Begin, End, Get, Put, Take, Latch, Retire, Look, Release, Miss}
use Rattle.bl_page.specs.Machine.Looked.{Process, Page as OfPage}
use Rattle.bl_proc.specs.declared.kinds.Proc.{Proc}
use Rattle.bl_world.specs.declared.lists.Lists.{Lists}
use Rattle.bl_world.specs.declared.turns.Act.{Act}
use Rattle.bl_world.specs.declared.turns.Act.TheVariants as shown
use Rattle.bl_world.specs.declared.turns.Event.{Event}
use Rattle.bl_world.specs.declared.turns.Turn.{Turn}
use Rattle.bl_world.specs.declared.turns.Turn.TheVariants as turn
use Rattle.bl_world.specs.declared.owners.Owner.{Owner}
use Rattle.bl_world.specs.declared.owners.Owner.TheVariants as own

-- The pages and their owners, by number; the processes in the order in which they were started, so that process n + 1 stands
-- at place n; and the events, one for each turn so far.
pub record View : Type 0 where
  pub pages : List Page
  pub owners : List Owner
  pub processes : List Proc
  pub events : List Event

abbrev pub view_of : Lists → View
view_of lists = record { pages = lists.pages.items; owners = lists.owners.items; processes = lists.processes.items; events = lists.events.items }

-- the process with that number
abbrev pub name_of : ℕ → Name
name_of number = record { pass = number; number = 0 }

abbrev pub owner_of : Owner → MachineOwner
owner_of own.Released = MachineOwner.Released
owner_of own.Open = MachineOwner.Open
owner_of (own.Held number) = MachineOwner.Held (name_of number)
owner_of (own.Retired place) = MachineOwner.Retired place

abbrev pub is_retired : Owner → Bool
is_retired own.Released = false
is_retired own.Open = false
is_retired (own.Held number) = false
is_retired (own.Retired place) = true

-- there is such a page, and it is open
abbrev pub is_open : Option Owner → Bool
is_open None = false
is_open (Some own.Released) = false
is_open (Some own.Open) = true
is_open (Some (own.Held number)) = false
is_open (Some (own.Retired place)) = false

-- what is shown of an event
abbrev pub act_shown : MachineAct Page Reply → Act
act_shown Begin = shown.Begin
act_shown (End answer) = shown.End
act_shown (Get x) = shown.Get x
act_shown (Put x c) = shown.Put x
act_shown (Take x) = shown.Take x
act_shown (Latch x) = shown.Latch x
act_shown (MachineAct.Open x) = shown.Open x
act_shown (Retire x) = shown.Retire x
act_shown (Look (Process p)) = shown.Look p.pass
act_shown (Look (OfPage x)) = shown.See x
act_shown (Release x) = shown.Release x
act_shown (Miss what) = shown.Miss

abbrev pub events_shown : List (MachineEvent Page Reply) → List Event
events_shown [] = []
events_shown (e ∷ events) = record { process = e.process.pass; act = act_shown e.act } ∷ events_shown events

-- whose turn it is
abbrev pub number_in : Turn → ℕ
number_in (turn.Step number) = number
number_in (turn.Take number at) = number
number_in (turn.Refuse number) = number
