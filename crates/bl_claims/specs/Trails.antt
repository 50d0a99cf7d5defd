-- Trails: what has happened, event by event, with the point of each answered operation.
use Rattle.std.specs.Prelude.{◌≡◌, ℕ, ◌<◌, ◌≤◌, ◌==◌, ◌&&◌, Bool, Option, Some, None, List, [], ◌∷◌, slice_get, filter, flat_map, option_map, option_to_list}
use Rattle.bl_model.specs.declared.operation.Op.{Op}
use Rattle.bl_model.specs.declared.operation.Reply.{Reply}
use Rattle.bl_model.specs.declared.operation.Entry.{Entry}
use Rattle.bl_page.specs.declared.page.Page.{Page}
use Rattle.bl_page.specs.Machine.{Name, State, Phase, Act, Event, Steps}
use Rattle.bl_page.specs.Machine.Act.{Begin, End, Get}
use Rattle.bl_page.specs.Machine.Phase.{Waiting, Running, Ended}

-- an answered operation
pub record Said : Type 0 where
  pub op : Op
  pub reply : Reply

-- One event; the page that it saw, if it is a get; and the operation of its process that has its point here, if one has.
pub record Mark : Type 0 where
  pub event : Event Page Reply
  pub saw : Option Page
  pub said : Option Said

abbrev pub Trail : Type 0
Trail = List Mark

-- the step list
abbrev pub events_of : Trail → List (Event Page Reply)
events_of [] = []
events_of (m ∷ ms) = m.event ∷ events_of ms

abbrev pub entries_at : Name → Option Said → List Entry
entries_at p said = option_to_list (option_map (λ (s : Said). record { pass = p.pass; op = s.op; reply = s.reply }) said)

-- the history: the answered operations in the order of their points
abbrev pub history_of : Trail → List Entry
history_of trail = flat_map (λ (m : Mark). entries_at m.event.process m.said) trail

abbrev pub same_name : Name → Name → Bool
same_name p q = (p.pass == q.pass) && (p.number == q.number)

-- what one process did
abbrev pub marks_of : Name → Trail → Trail
marks_of p trail = filter (λ (m : Mark). same_name m.event.process p) trail

-- at that place stands an event of p that does this
pub record DoesAt (trail : Trail) (i : ℕ) (p : Name) (act : Act Page Reply) : Type 0 where
  pub mark : Mark
  pub is : slice_get trail i ≡ Some mark
  pub event : mark.event ≡ record { process = p; act = act }

-- at that place an operation of p has its point
pub record SaysAt (trail : Trail) (i : ℕ) (p : Name) (said : Said) : Type 0 where
  pub mark : Mark
  pub is : slice_get trail i ≡ Some mark
  pub own : mark.event.process ≡ p
  pub says : mark.said ≡ Some said

-- The place may be the point of an operation of p: strictly after its begin, and before its end.
pub record IsPoint (trail : Trail) (i : ℕ) (p : Name) : Type 0 where
  pub begin : ℕ
  pub before : begin < i
  pub begun : DoesAt trail begin p Begin
  pub not_ended : (j : ℕ) (answer : Option Reply) → j ≤ i → DoesAt trail j p (End answer) → ⊥

-- What p has answered by its end: once an answer, at the operation's point; or none, and then no operation of p has a point.
abbrev pub Answered : Trail → Name → Option Reply → Type 0
Answered trail p (Some reply) = (i : ℕ) × (said : Said) × SaysAt trail i p said × (said.reply ≡ reply)
Answered trail p None = (i : ℕ) (said : Said) → SaysAt trail i p said → ⊥

-- The history is one of the step list: each entry stands at a point of its own process, a process has at most one, and
-- what it answered at its end is what stands there.
pub record IsMarked (trail : Trail) : Type 0 where
  pub points : (i : ℕ) (p : Name) (said : Said) → SaysAt trail i p said → IsPoint trail i p
  pub once : (i j : ℕ) (p : Name) (said other : Said) → SaysAt trail i p said → SaysAt trail j p other → i ≡ j
  pub answered : (i : ℕ) (p : Name) (answer : Option Reply) → DoesAt trail i p (End answer) → Answered trail p answer

-- the marks lead from one state to another, and each get saw what the page held
abbrev pub Saw : State Page → Act Page Reply → Option Page → Type 0
Saw s (Get x) saw = saw ≡ Some (s.contents x)
Saw s a saw = Unit {0}

abbrev pub LeadsOn : State Page → Trail → State Page → Type 0
LeadsOn s [] s' = s' ≡ s
LeadsOn s (m ∷ ms) s' = (mid : State Page) × Steps s m.event mid × Saw s m.event.act m.saw × LeadsOn mid ms s'

-- where a process stands, as the trail tells it
abbrev pub IsPhase : Trail → Name → Phase → Type 0
IsPhase trail p Waiting = ((i : ℕ) → DoesAt trail i p Begin → ⊥) × ((i : ℕ) (a : Option Reply) → DoesAt trail i p (End a) → ⊥)
IsPhase trail p (Running since) = ((i : ℕ) × DoesAt trail i p Begin) × ((i : ℕ) (a : Option Reply) → DoesAt trail i p (End a) → ⊥)
IsPhase trail p Ended = (i : ℕ) × DoesAt trail i p Begin

-- what an operation of p has said so far
abbrev pub HasSaid : Trail → Name → Option Said → Type 0
HasSaid trail p None = (i : ℕ) (said : Said) → SaysAt trail i p said → ⊥
HasSaid trail p (Some said) = (i : ℕ) × SaysAt trail i p said
