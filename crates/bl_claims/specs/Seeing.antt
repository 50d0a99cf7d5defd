-- What a pass has seen: all events up to its own last one, as a trail.
use Rattle.std.specs.Prelude.{◌≡◌, ◌≢◌, ℕ, ◌<◌, ◌++◌, Option, Some, List, [], ◌∷◌, Contains, filter, ◌==◌}
use Rattle.bl_model.specs.Map.{Map}
use Rattle.bl_model.specs.Rows.{map_of}
use Rattle.bl_model.specs.History.{IsLegalFrom}
use Rattle.bl_model.specs.declared.operation.Entry.{Entry}
use Rattle.bl_model.specs.declared.operation.Reply.{Reply}
use Rattle.bl_page.specs.declared.page.Page.{Page}
use Rattle.bl_page.specs.declared.page.Page.TheVariants.{Leaf}
use Rattle.bl_page.specs.Machine.{Name, State}
use Rattle.bl_page.specs.Machine.Act.{Begin, End}
use Rattle.bl_claims.specs.Trails.{Mark, Trail, history_of, IsMarked, LeadsOn}
use Rattle.bl_claims.specs.States.{HasMoments}
use Rattle.bl_claims.specs.Walks.{Each}
use Rattle.bl_claims.specs.Opening.{Opening, IsOpened}

-- the rows of all leaves of an image
abbrev pub rows_in : List (Option Page) → List (ℕ × ℕ)
rows_in [] = []
rows_in (Some (Leaf l) ∷ pages) = l.rows.items ++ rows_in pages
rows_in (page ∷ pages) = rows_in pages

-- the map that an index begins with
abbrev pub first_map : List (Option Page) → Map
first_map pages = map_of (rows_in pages)

-- the state that it begins with: it holds the pages of the image, or is the opening index
abbrev pub BeginsFrom : List (Option Page) → State Page → Type 0
BeginsFrom [] start = Opening start
BeginsFrom (page ∷ pages) start = IsOpened (page ∷ pages) start

-- The trail is linearizable: its events are legal and lead from the state that the index began with to some state, and its
-- history is one of them, legal from the map that it began with.
pub record IsLinearizable (first : List (Option Page)) (trail : Trail) : Type 0 where
  pub start : State Page
  pub now : State Page
  pub opening : BeginsFrom first start
  pub leads : LeadsOn start trail now
  pub marked : IsMarked trail
  pub legal : IsLegalFrom (first_map first) (history_of trail)

-- The trail is one that an index may have: it is linearizable; and, apart from that, the laws of the tree hold in each state
-- on its way and in its last one, with the map after the history so far.
pub record IsSeen (first : List (Option Page)) (trail : Trail) : Type 0 where
  pub linear : IsLinearizable first trail
  pub moments : HasMoments (first_map first) linear.start trail

-- the entries of one pass
abbrev pub own : ℕ → Trail → List Entry
own pass trail = filter (λ (e : Entry). e.pass == pass) (history_of trail)

-- the process of that pass that has that number
abbrev pub name : ℕ → ℕ → Name
name pass number = record { pass = pass; number = number }

-- its events are of the first so many passes
abbrev pub AreWithin : ℕ → Trail → Type 0
AreWithin passes trail = (m : Mark) → Contains trail m → m.event.process.pass < passes

-- new begins with old
abbrev pub GoesOnFrom : Trail → Trail → Type 0
GoesOnFrom old new = (more : Trail) × (new ≡ old ++ more)

-- none of these events is of that pass
abbrev pub AreElse : ℕ → Trail → Type 0
AreElse pass marks = Each (λ (m : Mark). m.event.process.pass ≢ pass) marks

-- of the pass of p there are none but those of p
abbrev pub AreOnlyOf : Name → Trail → Type 0
AreOnlyOf p marks = Each (λ (m : Mark). m.event.process.pass ≡ p.pass → m.event.process ≡ p) marks

-- In the new part of the trail no process of the pass of p acts but p. The first that this pass does there is the begin of p, and the
-- last event of all is the end of p, with that answer.
pub record Holds (p : Name) (answer : Option Reply) (old new : Trail) : Type 0 where
  pub more : Trail
  pub begins : new ≡ old ++ more
  pub alone : Each (λ (m : Mark). m.event.process.pass ≡ p.pass → m.event.process ≡ p) more
  pub first : (before : Trail) × (first : Mark) × (rest : Trail) × (more ≡ before ++ first ∷ rest) × (first.event ≡ record { process = p; act = Begin })
      × Each (λ (m : Mark). m.event.process.pass ≢ p.pass) before
  pub last : (before : Trail) × (last : Mark) × (more ≡ before ++ last ∷ []) × (last.event ≡ record { process = p; act = End answer })
