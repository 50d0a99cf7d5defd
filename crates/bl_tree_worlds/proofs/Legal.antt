-- The step list of a trail is legal, and what follows from that.
use Rattle.std.proofs.Common.{ℕ, ◌≡◌, Some, zero, suc, [], ◌∷◌}
use Rattle.std.specs.Prelude.{slice_get}
use Rattle.bl_page.specs.declared.page.Page.{Page}
use Rattle.bl_page.specs.Machine.{State, Steps, Leads, IsLegal}
use Rattle.bl_claims.specs.Trails.{Mark, Trail, events_of, Saw, LeadsOn}

-- the marks' events lead where the marks do
pub leads : (s s' : State Page) (trail : Trail) → LeadsOn s trail s' → Leads s (events_of trail) s'
leads s s' [] h = h
leads s s' (m ∷ ms) h = (h.0, h.1, leads h.0 s' ms h.3)

pub legal : (s s' : State Page) (trail : Trail) → LeadsOn s trail s' → IsLegal s (events_of trail)
legal s s' trail h = (s', leads s s' trail h)

-- the state before the event at a place, in which it was enabled
pub record Before (s : State Page) (trail : Trail) (i : ℕ) (m : Mark) : Type 0 where
  pub before : State Page
  pub next : State Page
  pub steps : Steps before m.event next
  pub saw : Saw before m.event.act m.saw

pub before : (s s' : State Page) (trail : Trail) (i : ℕ) (m : Mark) → LeadsOn s trail s' → slice_get trail i ≡ Some m → Before s trail i m
before s s' [] i m h e = cc
before s s' (d ∷ ms) zero m h e = let f : d ≡ m = cc in record { before = s; next = h.0; steps = rw (← f) h.1; saw = rw (← f) h.2 }
before s s' (d ∷ ms) (suc i) m h e = let b = before h.0 s' ms i m h.3 e in record { before = b.before; next = b.next; steps = b.steps; saw = b.saw }
