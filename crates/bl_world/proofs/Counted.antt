-- A release of a page looks at no more processes than were started.
use Rattle.std.proofs.Common.{ℕ, suc, ◌≡◌, Some, List, [], ◌∷◌, length, slice_get, slice_set, arith, ap, sym, ◌∙◌, refl, subst, inl, inr}
use Rattle.std.proofs.lemmas.Option.{slice_get_within}
use Rattle.std.proofs.lemmas.List.{length-set}
use Rattle.bl_proc_steps.specs.declared.acts.Action.{Action}
use Rattle.bl_proc_steps.specs.declared.acts.Action.TheVariants as act
use Rattle.bl_proc_steps.specs.declared.acts.Seen.{Seen}
use Rattle.bl_proc.specs.declared.reclaiming.ReclaimStage.{ReclaimStage}
use Rattle.bl_proc.specs.declared.reclaiming.ReclaimStage.TheVariants as reclaim
use Rattle.bl_proc.specs.declared.kinds.Proc.{Proc}
use Rattle.bl_proc.specs.declared.kinds.Proc.TheVariants as proc
use Rattle.bl_proc.specs.Reclaims.{reclaim_next_in}
use Rattle.bl_proc.specs.Processes.{next_of}
use Rattle.bl_proc_rest.specs.Rests.{IsCountedIn, IsCounted, SeesStarted}
use Rattle.bl_proc_rest.proofs.Resting.{counted_on}
use Rattle.bl_world.specs.declared.turns.Act.{Act}
use Rattle.bl_world.specs.declared.turns.Turn.{Turn}
use Rattle.bl_world.specs.declared.turns.Turn.TheVariants as turn
use Rattle.bl_world.specs.Views.{View}
use Rattle.bl_world.specs.Turns.{Tells, Idles, Carries, TurnsAt, TurnsTo}
use Rattle.bl_world.specs.WorldSteps.{WorldStep, MayStart, Starts, LeadsTo, Way}
use Rattle.bl_world.specs.WorldSteps.WorldStep.{Starting, Turning}
use Rattle.bl_world.proofs.Arms.{set_cases}
use Rattle.bl_world.proofs.Places.{push_length, push_cases}

abbrev pub AllCounted : View → Type 0
AllCounted v = (i : ℕ) (p : Proc) → slice_get v.processes i ≡ Some p → IsCounted (length v.processes) p

module _ (v v' : View) (n : ℕ) (p : Proc) (stood : slice_get v.processes n ≡ Some p) (all : AllCounted v) where
  told : {a : Act} (what : Seen) → SeesStarted (length v.processes) what → Tells v n p a what v' → AllCounted v'
  told what sees t i q is =
      let count : length v'.processes ≡ length v.processes = ap length t.processes ∙ length-set v.processes n t.new in
      let set : slice_get (slice_set v.processes n t.new) i ≡ Some q = ap (λ z. slice_get z i) (sym t.processes) ∙ is in
      let new = counted_on (length v.processes) p t.new what t.takes (all n p stood) sees in
      subst (λ z. IsCounted z q) (sym count) (set_cases (λ j r. IsCounted (length v.processes) r) v.processes n t.new (slice_get_within v.processes n p stood) new (λ j r ne there. all j r there) i q set)

  idles : Idles v n v' → AllCounted v'
  idles e = subst AllCounted (sym e) all

  carried : (action : Action) → Carries v n p action v' → AllCounted v'
  carried act.Begin c = told _ tt c.1
  carried act.End c = told _ tt c.1
  carried (act.Get x) c = told _ tt c.3
  carried (act.Put x d) c = told _ tt c.1
  carried (act.Latch x) c = elim c [ inl l ↦ told _ tt l.2 | inr m ↦ told _ tt m.2 ]
  carried (act.Open x) c = told _ tt c.1
  carried act.Take c = absurd c
  carried (act.Retire x) c = told _ tt c.1
  carried (act.Look q) c = told _ tt c.7
  carried (act.See x) c = told _ refl c.3
  carried (act.Probe x) c = told _ tt c.1
  carried (act.Release x) c = elim c [ inl l ↦ told _ tt l.2 | inr m ↦ told _ tt m.2 ]

  at : (t : Turn) → TurnsAt v n p t v' → AllCounted v'
  at (turn.Step number) d = elim d [ inl l ↦ carried (next_of p) l.1 | inr i ↦ idles i.1 ]
  at (turn.Take number x) d = elim d [ inl l ↦ told _ tt l.3 | inr i ↦ idles i.1 ]
  at (turn.Refuse number) d = elim d [ inl l ↦ told _ tt l.2 | inr i ↦ idles i.1 ]

pub counted_turn : (v v' : View) (t : Turn) → AllCounted v → TurnsTo v t v' → AllCounted v'
counted_turn v v' t all r = at v v' r.place r.process r.stood all t r.does

more_in : (a : ReclaimStage) (count : ℕ) → IsCountedIn count a → IsCountedIn (suc count) a
more_in (reclaim.Looking r) count h = omega (arith, h)
more_in reclaim.Seeing count h = tt
more_in reclaim.Releasing count h = tt
more_in (reclaim.Over what) count h = tt

more : (p : Proc) (count : ℕ) → IsCounted count p → IsCounted (suc count) p
more (proc.Reclaim a) count h = more_in a.stage count h
more (proc.Find a) count h = tt
more (proc.Write a) count h = tt
more (proc.Post a) count h = tt
more (proc.Part a) count h = tt
more (proc.Compress a) count h = tt
more (proc.Lower a) count h = tt
more (proc.InsertPost a) count h = tt

seeing : (a : ReclaimStage) (count : ℕ) → a ≡ reclaim.Seeing → IsCountedIn count a
seeing a count e = subst (IsCountedIn count) (sym e) tt

begins : (page : ℕ) (a : ReclaimStage) (count : ℕ) → reclaim_next_in page a ≡ act.Begin → IsCountedIn count a
begins page (reclaim.Looking r) count e = absurd (cc e)
begins page reclaim.Seeing count e = tt
begins page reclaim.Releasing count e = tt
begins page (reclaim.Over what) count e = tt

starts : (v : View) (p : Proc) (count : ℕ) → MayStart v p → IsCounted count p
starts v (proc.Reclaim a) count (inl e) = begins a.page a.stage count e
starts v (proc.Reclaim a) count (inr r) = seeing a.stage count r.2.1
starts v (proc.Find a) count h = tt
starts v (proc.Write a) count h = tt
starts v (proc.Post a) count h = tt
starts v (proc.Part a) count h = tt
starts v (proc.Compress a) count h = tt
starts v (proc.Lower a) count h = tt
starts v (proc.InsertPost a) count h = tt

counted_start : (v v' : View) (p : Proc) → AllCounted v → MayStart v p → Starts v p v' → AllCounted v'
counted_start v v' p all may e i q is =
    let count : length v'.processes ≡ suc (length v.processes) = ap (λ z. length z.processes) e ∙ push_length v.processes p in
    subst (λ z. IsCounted z q) (sym count) (elim (push_cases v.processes p i q (ap (λ z. slice_get z.processes i) (sym e) ∙ is)) [
      | inl there ↦ more q (length v.processes) (all i q there)
      | inr new ↦ subst (IsCounted (suc (length v.processes))) (sym new.1) (starts v p (suc (length v.processes)) may)
    ])

counted_led : (v v' : View) (steps : List WorldStep) → AllCounted v → LeadsTo v steps v' → AllCounted v'
counted_led v v' [] all e = subst AllCounted (sym e) all
counted_led v v' (Starting p ∷ steps) all r = counted_led r.0 v' steps (counted_start v r.0 p all r.1.0 r.1.1) r.2
counted_led v v' (Turning t ∷ steps) all r = counted_led r.0 v' steps (counted_turn v r.0 t all r.1) r.2

none_at_first : (i : ℕ) (p : Proc) → slice_get {X = Proc} [] i ≡ Some p → ⊥
none_at_first i p e = cc

pub all_counted : (v : View) → Way v → AllCounted v
all_counted v w = counted_led w.opened v w.world_steps (λ i p is. absurd (none_at_first i p (rw w.opening.processes at is))) w.led
