-- Deeds, one after the other: each turn is one event, and where there was no room a turn was a refusal.
use Rattle.std.proofs.Common.{ℕ, ◌≡◌, ◌≢◌, ◌⊎◌, ◌+◌, ◌++◌, Some, List, [], ◌∷◌, length, slice_get, slice_set, arith, ap, sym, ◌∙◌, refl, subst, inl, inr}
use Rattle.std.proofs.lemmas.Bool.{cases_eq}
use Rattle.std.proofs.lemmas.Option.{slice_get_within}
use Rattle.bl_proc_steps.specs.declared.acts.Action.{Action}
use Rattle.bl_proc_steps.specs.declared.acts.Action.TheVariants as act
use Rattle.bl_proc_steps.specs.declared.acts.Seen.{Seen}
use Rattle.bl_proc_steps.specs.declared.acts.Seen.TheVariants as seen
use Rattle.bl_proc.specs.declared.kinds.Proc.{Proc}
use Rattle.bl_proc.specs.Processes.{next_of}
use Rattle.bl_world.specs.declared.turns.Act.{Act}
use Rattle.bl_world.specs.declared.turns.Turn.{Turn}
use Rattle.bl_world.specs.declared.turns.Turn.TheVariants as turn
use Rattle.bl_world.specs.Views.{View, number_in}
use Rattle.bl_world.specs.Turns.{MayRefuse, Tells, Idles, Carries, TurnsAt, TurnsTo, RunsTo}
use Rattle.bl_world.specs.WorldSteps.{IsOpening, WorldStep, MayStart, Starts, DoneTo, LeadsTo, turns_in, Way, WasRefused}
use Rattle.bl_world.specs.WorldSteps.WorldStep.{Starting, Turning}
use Rattle.bl_world.proofs.Arms.{set_here, set_other}
use Rattle.bl_world.proofs.Places.{push_plus, push_cases}
use Rattle.bl_proc_deterministic.specs.Refusals.{IsRefused}
use Rattle.bl_proc_deterministic.proofs.RefusedTurns.{takes_refused}
use Rattle.bl_world.proofs.RefusedBegins.{begins_free, reclaim_free}

-- Ways go on

pub leads_on : (v mid v' : View) (world_steps : List WorldStep) (d : WorldStep) → LeadsTo v world_steps mid → DoneTo mid d v' → LeadsTo v (world_steps ++ d ∷ []) v'
leads_on v mid v' [] d e done = (v', subst (λ z. DoneTo z d v') e done, refl)
leads_on v mid v' (s ∷ world_steps) d r done = (r.0, r.1, leads_on r.0 mid v' world_steps d r.2 done)

pub way_start : (v v' : View) (p : Proc) → MayStart v p → Starts v p v' → Way v → Way v'
way_start v v' p next e w = record { size = w.size; opened = w.opened; opening = w.opening; world_steps = w.world_steps ++ Starting p ∷ []; led = leads_on w.opened v v' w.world_steps (Starting p) w.led (next, e) }

pub way_run : (v v' : View) (turns : List Turn) → RunsTo v turns v' → Way v → Way v'
way_run v v' [] e w = subst Way (sym e) w
way_run v v' (t ∷ turns) r w = way_run r.0 v' turns r.2 (record { size = w.size; opened = w.opened; opening = w.opening; world_steps = w.world_steps ++ Turning t ∷ []; led = leads_on w.opened v r.0 w.world_steps (Turning t) w.led r.1 })

pub way_first : (size : ℕ) (v : View) → IsOpening size v → Way v
way_first size v o = record { size = size; opened = v; opening = o; world_steps = []; led = refl }

-- One event for each turn

module _ (v v' : View) (n : ℕ) (p : Proc) where
  one_observed : {a : Act} {what : Seen} → Tells v n p a what v' → length v'.events ≡ length v.events + 1
  one_observed t = ap length t.events ∙ push_plus v.events _

  one_idle : Idles v n v' → length v'.events ≡ length v.events + 1
  one_idle i = ap (λ z. length z.events) i ∙ push_plus v.events _

  one_carried : (action : Action) → Carries v n p action v' → length v'.events ≡ length v.events + 1
  one_carried act.Begin c = one_observed c.1
  one_carried act.End c = one_observed c.1
  one_carried (act.Get x) c = one_observed c.3
  one_carried (act.Put x d) c = one_observed c.1
  one_carried (act.Latch x) c = elim c [ inl l ↦ one_observed l.2 | inr m ↦ one_observed m.2 ]
  one_carried (act.Open x) c = one_observed c.1
  one_carried act.Take c = absurd c
  one_carried (act.Retire x) c = one_observed c.1
  one_carried (act.Look q) c = one_observed c.7
  one_carried (act.See x) c = one_observed c.3
  one_carried (act.Probe x) c = one_observed c.1
  one_carried (act.Release x) c = elim c [ inl l ↦ one_observed l.2 | inr m ↦ one_observed m.2 ]

  one_event : (t : Turn) → TurnsAt v n p t v' → length v'.events ≡ length v.events + 1
  one_event (turn.Step number) d = elim d [ inl l ↦ one_carried (next_of p) l.1 | inr i ↦ one_idle i.1 ]
  one_event (turn.Take number x) d = elim d [ inl l ↦ one_observed l.3 | inr i ↦ one_idle i.1 ]
  one_event (turn.Refuse number) d = elim d [ inl l ↦ one_observed l.2 | inr i ↦ one_idle i.1 ]

pub events_count : (v v' : View) (world_steps : List WorldStep) → LeadsTo v world_steps v' → length v'.events ≡ length v.events + turns_in world_steps
events_count v v' [] e = (let f = ap (λ z. length z.events) e in omega (arith, f))
events_count v v' (Starting p ∷ world_steps) r =
    let f : length r.0.events ≡ length v.events = ap (λ z. length z.events) r.1.1 in
    let g = events_count r.0 v' world_steps r.2 in
    omega (arith, f, g)
events_count v v' (Turning t ∷ world_steps) r =
    let f = one_event v r.0 r.1.place r.1.process t r.1.does in
    let g = events_count r.0 v' world_steps r.2 in
    omega (arith, f, g)

-- Where there is no room now, there was none before, or this turn is the refusal.

-- a refused process stands at that place
pub record Stuck (v : View) (m : ℕ) : Type 0 where
  pub process : Proc
  pub stood : slice_get v.processes m ≡ Some process
  pub refused : IsRefused process

module _ (v v' : View) (n m : ℕ) (p : Proc) (stood : slice_get v.processes n ≡ Some p) (after : Stuck v' m) where
  observed_stuck : {a : Act} (what : Seen) → Tells v n p a what v' → Stuck v m ⊎ ((n ≡ m) × (what ≡ seen.Refused))
  observed_stuck what t = elim (cases_eq m n) [
    | inl e ↦
        let here : slice_get v'.processes m ≡ Some t.new = ap (λ z. slice_get z m) t.processes ∙ (ap (slice_get (slice_set v.processes n t.new)) e ∙ set_here v.processes n t.new (slice_get_within v.processes n p stood)) in
        let is : after.process ≡ t.new = (let f : Some after.process ≡ Some t.new = sym after.stood ∙ here in cc) in
        elim (takes_refused p what t.new t.takes (subst IsRefused is after.refused)) [
          | inl r ↦ inl (record { process = p; stood = ap (slice_get v.processes) e ∙ stood; refused = r })
          | inr w ↦ inr (sym e, w)
        ]
    | inr ne ↦ inl (record { process = after.process; stood = sym (set_other v.processes n m t.new ne) ∙ (ap (λ z. slice_get z m) (sym t.processes) ∙ after.stood); refused = after.refused })
  ]

  idle_stuck : Idles v n v' → Stuck v m
  idle_stuck i = record { process = after.process; stood = ap (λ z. slice_get z.processes m) (sym i) ∙ after.stood; refused = after.refused }

  kept_stuck : {a : Act} (what : Seen) → what ≢ seen.Refused → Tells v n p a what v' → Stuck v m
  kept_stuck what ne t = elim (observed_stuck what t) [ inl s ↦ s | inr w ↦ absurd (ne w.1) ]

  carried_stuck : (action : Action) → Carries v n p action v' → Stuck v m
  carried_stuck act.Begin c = kept_stuck _ (λ e. cc) c.1
  carried_stuck act.End c = kept_stuck _ (λ e. cc) c.1
  carried_stuck (act.Get x) c = kept_stuck _ (λ e. cc) c.3
  carried_stuck (act.Put x d) c = kept_stuck _ (λ e. cc) c.1
  carried_stuck (act.Latch x) c = elim c [ inl l ↦ kept_stuck _ (λ e. cc) l.2 | inr k ↦ kept_stuck _ (λ e. cc) k.2 ]
  carried_stuck (act.Open x) c = kept_stuck _ (λ e. cc) c.1
  carried_stuck act.Take c = absurd c
  carried_stuck (act.Retire x) c = kept_stuck _ (λ e. cc) c.1
  carried_stuck (act.Look q) c = kept_stuck _ (λ e. cc) c.7
  carried_stuck (act.See x) c = kept_stuck _ (λ e. cc) c.3
  carried_stuck (act.Probe x) c = kept_stuck _ (λ e. cc) c.1
  carried_stuck (act.Release x) c = elim c [ inl l ↦ kept_stuck _ (λ e. cc) l.2 | inr k ↦ kept_stuck _ (λ e. cc) k.2 ]

-- the process at that place was refused by this turn
abbrev Refuses : View → Turn → ℕ → Type 0
Refuses v t m = (t ≡ turn.Refuse (m + 1)) × ((p : Proc) × (slice_get v.processes m ≡ Some p) × MayRefuse p)

turn_stuck : (v v' : View) (t : Turn) (m : ℕ) → TurnsTo v t v' → Stuck v' m → Stuck v m ⊎ Refuses v t m
turn_stuck v v' t m r after = by_kind t r.number r.does
  where
    by_kind : (t : Turn) → number_in t ≡ r.place + 1 → TurnsAt v r.place r.process t v' → Stuck v m ⊎ Refuses v t m
    by_kind (turn.Step number) e d = elim d [ inl l ↦ inl (carried_stuck v v' r.place m r.process r.stood after (next_of r.process) l.1) | inr i ↦ inl (idle_stuck v v' r.place m r.process r.stood after i.1) ]
    by_kind (turn.Take number x) e d = elim d [ inl l ↦ inl (kept_stuck v v' r.place m r.process r.stood after _ (λ e. cc) l.3) | inr i ↦ inl (idle_stuck v v' r.place m r.process r.stood after i.1) ]
    by_kind (turn.Refuse number) e d = elim d [
      | inl l ↦ elim (observed_stuck v v' r.place m r.process r.stood after _ l.2) [
        | inl s ↦ inl s
        | inr w ↦ inr (ap turn.Refuse (e ∙ ap (λ z. z + 1) w.0), (r.process, ap (slice_get v.processes) (sym w.0) ∙ r.stood, l.0))
      ]
      | inr i ↦ inl (idle_stuck v v' r.place m r.process r.stood after i.1)
    ]

start_stuck : (v v' : View) (p : Proc) (m : ℕ) → (IsRefused p → ⊥) → Starts v p v' → Stuck v' m → Stuck v m
start_stuck v v' p m not e after = elim (push_cases v.processes p m after.process (ap (λ z. slice_get z.processes m) (sym e) ∙ after.stood)) [
  | inl s ↦ record { process = after.process; stood = s; refused = after.refused }
  | inr s ↦ absurd (not (subst IsRefused s.1 after.refused))
]

-- the deeds that follow on a first one
after_world_step : (v mid : View) (d : WorldStep) (world_steps : List WorldStep) (m : ℕ) → DoneTo v d mid → WasRefused mid world_steps m → WasRefused v (d ∷ world_steps) m
after_world_step v mid d world_steps m done w = record {
  before = d ∷ w.before;
  after = w.after;
  split = ap (λ z. d ∷ z) w.split;
  then = w.then;
  led = (mid, done, w.led);
  process = w.process;
  stood = w.stood;
  fit = w.fit;
}

pub was_refused : (v v' : View) (world_steps : List WorldStep) (m : ℕ) → LeadsTo v world_steps v' → Stuck v' m → Stuck v m ⊎ WasRefused v world_steps m
was_refused v v' [] m e after = inl (record { process = after.process; stood = ap (λ z. slice_get z.processes m) (sym e) ∙ after.stood; refused = after.refused })
was_refused v v' (Starting p ∷ world_steps) m r after = elim (was_refused r.0 v' world_steps m r.2 after) [
  | inl s ↦ inl (start_stuck v r.0 p m (elim r.1.0 [ inl e ↦ begins_free p e | inr is ↦ reclaim_free is.0 p is.2 ]) r.1.1 s)
  | inr w ↦ inr (after_world_step v r.0 (Starting p) world_steps m r.1 w)
]
was_refused v v' (Turning t ∷ world_steps) m r after = elim (was_refused r.0 v' world_steps m r.2 after) [
  | inl s ↦ elim (turn_stuck v r.0 t m r.1 s) [
    | inl k ↦ inl k
    | inr k ↦ inr (record {
      before = [];
      after = world_steps;
      split = ap (λ z. Turning z ∷ world_steps) k.0;
      then = v;
      led = refl;
      process = k.1.0;
      stood = k.1.1;
      fit = k.1.2;
    })
  ]
  | inr w ↦ inr (after_world_step v r.0 (Turning t) world_steps m r.1 w)
]

-- at the opening nobody was refused
pub first_refused : (size : ℕ) (v v' : View) (world_steps : List WorldStep) (m : ℕ) → IsOpening size v → LeadsTo v world_steps v' → Stuck v' m → WasRefused v world_steps m
first_refused size v v' world_steps m o led after = elim (was_refused v v' world_steps m led after) [
  | inl s ↦ absurd (let e : slice_get {X = Proc} [] m ≡ Some s.process = rw o.processes at s.stood in cc)
  | inr w ↦ w
]
