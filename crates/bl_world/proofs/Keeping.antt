-- Turns lead from lists of a world to lists of a world, and the trail goes on.
use Rattle.std.proofs.Common.{ℕ, ◌≡◌, ◌+◌, ◌++◌, suc, Some, List, [], ◌∷◌, length, slice_get, slice_set, arith, ap, sym, ◌∙◌, refl, subst, inl, inr, append_assoc, append-nil}
use Rattle.std.proofs.lemmas.Option.{slice_get_within}
use mathlib.Core.Logic.{∥∥₁_map}
use Rattle.bl_page.specs.declared.machine.Missed.{Missed}
use Rattle.bl_page.specs.declared.machine.Missed.TheVariants as missed
use Rattle.bl_page.specs.declared.page.Page.{Page}
use Rattle.bl_proc_steps.specs.declared.acts.Action.{Action}
use Rattle.bl_proc_steps.specs.declared.acts.Action.TheVariants as act
use Rattle.bl_proc_steps.specs.declared.acts.Seen.{Seen}
use Rattle.bl_proc_steps.specs.declared.acts.Seen.TheVariants as seen
use Rattle.bl_proc.specs.declared.kinds.Proc.{Proc}
use Rattle.bl_proc.specs.Processes.{next_of}
use Rattle.bl_world.specs.declared.turns.Act.{Act}
use Rattle.bl_world.specs.declared.turns.Act.TheVariants as shown
use Rattle.bl_world.specs.declared.turns.Turn.{Turn}
use Rattle.bl_world.specs.declared.turns.Turn.TheVariants as turn
use Rattle.bl_world.specs.declared.owners.Owner.TheVariants as own
use Rattle.bl_world.specs.Views.{View}
use Rattle.bl_world.specs.Turns.{Stays, Puts, Owns, Tells, Idles, Carries, TurnsAt, TurnsTo, RunsTo}
use Rattle.bl_world.specs.Worlds.{HasWorld, IsWorld}
use Rattle.bl_world.proofs.Stands.{Grows}
use Rattle.bl_world.proofs.Arms.{begins, ends, gets, probes, misses, puts, latches, opens, retires, takes_page, refuses_take, refuses_put, idles}
use Rattle.bl_world.proofs.ReclaimArms.{sees, looks, frees, keeps}
use Rattle.bl_world.proofs.Near.{within}
use Rattle.bl_world.proofs.Reserving.{Reserves, reserves}
use Rattle.bl_world.proofs.Runs.{turn_size}

-- the lists that stand there are those of a world
abbrev pub Has : View → Type 0
Has v = HasWorld v.pages v.owners v.processes v.events

-- the lists after, and how the trail goes on
abbrev pub GrowsTo : {v : View} → Has v → View → Type 0
GrowsTo h v' = Grows h v'.pages v'.owners v'.processes v'.events

one_more : (n : ℕ) → n + 1 ≡ suc n
one_more n = omega arith

module _ (v v' : View) (n : ℕ) (p : Proc) (stood : slice_get v.processes n ≡ Some p) (h : Has v) where
  -- the lists after, by what the process was told and what became of pages and owners
  stays_to : (act : Act) (what : Seen) → Stays v v' → (t : Tells v n p act what v') → Grows h v.pages v.owners (slice_set v.processes n t.new) (v.events ++ record { process = suc n; act = act } ∷ []) → GrowsTo h v'
  stays_to act what s t g = rw (s.0, s.1, t.processes, t.events, one_more n) g

  owns_to : (act : Act) (what : Seen) (x : ℕ) (o : _) → Owns v x o v' → (t : Tells v n p act what v') → Grows h v.pages (slice_set v.owners x o) (slice_set v.processes n t.new) (v.events ++ record { process = suc n; act = act } ∷ []) → GrowsTo h v'
  owns_to act what x o s t g = rw (s.0, s.1, t.processes, t.events, one_more n) g

  puts_to : (act : Act) (what : Seen) (x : ℕ) (c : Page) → Puts v x c v' → (t : Tells v n p act what v') → Grows h (slice_set v.pages x c) v.owners (slice_set v.processes n t.new) (v.events ++ record { process = suc n; act = act } ∷ []) → GrowsTo h v'
  puts_to act what x c s t g = rw (s.0, s.1, t.processes, t.events, one_more n) g

  idles_to : (what : Missed) → Idles v n v' → GrowsTo h v'
  idles_to what e =
      let w : View = record v { events = v.events ++ record { process = suc n; act = shown.Miss } ∷ [] } in
      let is : v' ≡ w = rw (one_more n) at e in
      subst (λ z. GrowsTo h z) (sym is) (idles what v.pages v.owners v.processes v.events n (slice_get_within v.processes n p stood) h)

  carries_to : (action : Action) → next_of p ≡ action → Carries v n p action v' → GrowsTo h v'
  carries_to act.Begin next c = stays_to _ _ c.0 c.1 (begins v.pages v.owners v.processes v.events n p c.1.new stood next c.1.takes h)
  carries_to act.End next c = stays_to _ _ c.0 c.1 (ends v.pages v.owners v.processes v.events n p c.1.new stood next c.1.takes h)
  carries_to (act.Get x) next c = stays_to _ _ c.2 c.3 (gets v.pages v.owners v.processes v.events n p c.3.new stood x c.0 c.1 next c.3.takes h)
  carries_to (act.Put x d) next c = puts_to _ _ x d c.0 c.1 (puts v.pages v.owners v.processes v.events n p c.1.new stood x d (within v.pages v.owners v.processes v.events n p (act.Put x d) stood next h) next c.1.takes h)
  carries_to (act.Latch x) next c = elim c [
    | inl l ↦ owns_to _ _ x (own.Held (suc n)) (l.1.0, rw (one_more n) at l.1.1) l.2 (latches v.pages v.owners v.processes v.events n p l.2.new stood x l.0 next l.2.takes h)
    | inr m ↦ stays_to _ _ m.1 m.2 (misses v.pages v.owners v.processes v.events n p m.2.new stood x next m.2.takes h)
  ]
  carries_to (act.Open x) next c = owns_to _ _ x own.Open c.0 c.1 (opens v.pages v.owners v.processes v.events n p c.1.new stood x (omega (arith, h.paired, within v.pages v.owners v.processes v.events n p (act.Open x) stood next h)) next c.1.takes h)
  carries_to act.Take next c = absurd c
  carries_to (act.Retire x) next c = owns_to _ _ x (own.Retired (length v.events)) c.0 c.1 (retires v.pages v.owners v.processes v.events n p c.1.new stood x (omega (arith, h.paired, within v.pages v.owners v.processes v.events n p (act.Retire x) stood next h)) next c.1.takes h)
  carries_to (act.Look q) next c = stays_to _ _ c.6 c.7 (looks v.pages v.owners v.processes v.events n p c.7.new stood c.0 c.1 q c.2 c.3 (rw (one_more n) at c.4) c.5 next c.7.takes h)
  carries_to (act.See x) next c = stays_to _ _ c.2 c.3 (sees v.pages v.owners v.processes v.events n p c.3.new stood x c.0 c.1 next (rw (one_more n) at c.3.takes) h)
  carries_to (act.Probe x) next c = stays_to _ _ c.0 c.1 (probes v.pages v.owners v.processes v.events n p c.1.new stood x next c.1.takes h)
  carries_to (act.Release x) next c = elim c [
    | inl l ↦ owns_to _ _ x own.Released l.1 l.2 (frees v.pages v.owners v.processes v.events n p l.2.new stood x l.0.0 (rw (one_more n) at l.0.1) l.0.2 next l.2.takes h)
    | inr m ↦ stays_to _ _ m.1 m.2 (keeps v.pages v.owners v.processes v.events n p m.2.new stood x (omega (arith, h.paired, within v.pages v.owners v.processes v.events n p (act.Release x) stood next h)) (λ k s e. m.0 (k, rw (one_more n) s, e)) next m.2.takes h)
  ]

  -- a refusal
  refuses_to : (action : Action) → next_of p ≡ action → Reserves action → Stays v v' → Tells v n p shown.Miss seen.Refused v' → GrowsTo h v'
  refuses_to act.Take next r s t = stays_to _ _ s t (refuses_take v.pages v.owners v.processes v.events n p t.new stood next t.takes h)
  refuses_to (act.Put x c) next r s t = stays_to _ _ s t (refuses_put v.pages v.owners v.processes v.events n p t.new stood x c next t.takes h)
  refuses_to old next r s t = absurd r

  at_to : (t : Turn) → TurnsAt v n p t v' → GrowsTo h v'
  at_to (turn.Step number) does = elim does [ inl d ↦ carries_to (next_of p) refl d.1 | inr d ↦ idles_to missed.Turn d.1 ]
  at_to (turn.Take number x) does = elim does [
    | inl d ↦ owns_to _ _ x (own.Held (suc n)) (d.2.0, rw (one_more n) at d.2.1) d.3 (takes_page v.pages v.owners v.processes v.events n p d.3.new stood x d.1.1 (rw (← h.paired) (slice_get_within v.owners x own.Released d.1.1)) d.0.1 d.3.takes h)
    | inr d ↦ idles_to missed.Take d.1
  ]
  at_to (turn.Refuse number) does = elim does [ inl d ↦ refuses_to (next_of p) refl (reserves p d.0.1) d.1 d.2 | inr d ↦ idles_to missed.Turn d.1 ]

-- one turn
pub turn_grows : (v v' : View) (t : Turn) (h : Has v) → TurnsTo v t v' → GrowsTo h v'
turn_grows v v' t h does = at_to v v' does.place does.process does.stood h t does.does

-- a list of turns
pub runs_grow : (v v' : View) (turns : List Turn) (h : Has v) → RunsTo v turns v' → GrowsTo h v'
runs_grow v v' [] h e = subst (λ z. GrowsTo h z) (sym e) (h, ([], sym (append-nil h.world.trail)), λ x far. refl)
runs_grow v v' (t ∷ turns) h r =
    let one = turn_grows v r.0 t h r.1 in
    let rest = runs_grow r.0 v' turns one.0 r.2 in
    let size : one.0.world.size ≡ h.world.size = one.0.size ∙ (turn_size v r.0 t r.1 ∙ sym h.size) in
    (rest.0, (one.1.0 ++ rest.1.0, rest.1.1 ∙ (ap (λ z. z ++ rest.1.0) one.1.1 ∙ append_assoc h.world.trail one.1.0 rest.1.0)), λ x far. rest.2 x (omega (arith, far, size)) ∙ one.2 x far)

pub runs_keep : (v v' : View) (turns : List Turn) → IsWorld v → RunsTo v turns v' → IsWorld v'
runs_keep v v' turns h r = ∥∥₁_map h (λ h. (runs_grow v v' turns h r).0)
