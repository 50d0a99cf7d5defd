-- What a turn puts is a page of the world.
use Rattle.std.proofs.Common.{ℕ, ◌≡◌, ◌<◌, ◌+◌, ◌++◌, Some, [], ◌∷◌, length, slice_get, ap, sym, ◌∙◌, refl, subst, inl, inr}
use Rattle.std.proofs.lemmas.List.{append_cancel_left}
use Rattle.bl_proc_steps.specs.declared.acts.Action.{Action}
use Rattle.bl_proc_steps.specs.declared.acts.Action.TheVariants as act
use Rattle.bl_proc_steps.specs.declared.acts.Seen.{Seen}
use Rattle.bl_proc.specs.declared.kinds.Proc.{Proc}
use Rattle.bl_proc.specs.Processes.{next_of}
use Rattle.bl_world.specs.declared.turns.Act.{Act}
use Rattle.bl_world.specs.declared.turns.Act.TheVariants as shown
use Rattle.bl_world.specs.declared.turns.Event.{Event}
use Rattle.bl_world.specs.declared.turns.Turn.{Turn}
use Rattle.bl_world.specs.declared.turns.Turn.TheVariants as turn
use Rattle.bl_world.specs.Views.{View}
use Rattle.bl_world.specs.Turns.{Tells, Idles, Carries, TurnsAt, TurnsTo}
use Rattle.bl_world.specs.Worlds.{IsWorld}
use Rattle.bl_world.proofs.Near.{put_within}

module _ (v v' : View) (n : ℕ) (p : Proc) (x : ℕ) (e : Event) (is : v'.events ≡ v.events ++ e ∷ []) (puts : e.act ≡ shown.Put x) where
  same : (a : Act) → v'.events ≡ v.events ++ record { process = n + 1; act = a } ∷ [] → a ≡ shown.Put x
  same a told =
      let only = append_cancel_left v.events (record { process = n + 1; act = a } ∷ []) (e ∷ []) (sym told ∙ is) in
      let one : record { process = n + 1; act = a } ≡ e = cc in
      ap (λ (z : Event). z.act) one ∙ puts

  told : (a : Act) (what : Seen) → Tells v n p a what v' → a ≡ shown.Put x
  told a what t = same a t.events

  idle : Idles v n v' → x < length v.pages
  idle i = absurd (let f = same shown.Miss (ap (λ (z : View). z.events) i) in cc)

  carried : (action : Action) → next_of p ≡ action → slice_get v.processes n ≡ Some p → IsWorld v → Carries v n p action v' → x < length v.pages
  carried act.Begin next stood h c = absurd (let f = told _ _ c.1 in cc)
  carried act.End next stood h c = absurd (let f = told _ _ c.1 in cc)
  carried (act.Get y) next stood h c = absurd (let f = told _ _ c.3 in cc)
  carried (act.Put y d) next stood h c =
      let f = told _ _ c.1 in
      let there : y ≡ x = cc in
      subst (λ z. z < length v.pages) there (put_within v.pages v.owners v.processes v.events n p y stood h d next)
  carried (act.Latch y) next stood h c = elim c [ inl l ↦ absurd (let f = told _ _ l.2 in cc) | inr m ↦ absurd (let f = told _ _ m.2 in cc) ]
  carried (act.Open y) next stood h c = absurd (let f = told _ _ c.1 in cc)
  carried act.Take next stood h c = absurd c
  carried (act.Retire y) next stood h c = absurd (let f = told _ _ c.1 in cc)
  carried (act.Look q) next stood h c = absurd (let f = told _ _ c.7 in cc)
  carried (act.See y) next stood h c = absurd (let f = told _ _ c.3 in cc)
  carried (act.Probe y) next stood h c = absurd (let f = told _ _ c.1 in cc)
  carried (act.Release y) next stood h c = elim c [ inl l ↦ absurd (let f = told _ _ l.2 in cc) | inr m ↦ absurd (let f = told _ _ m.2 in cc) ]

  turned : (t : Turn) → slice_get v.processes n ≡ Some p → IsWorld v → TurnsAt v n p t v' → x < length v.pages
  turned (turn.Step number) stood h d = elim d [ inl l ↦ carried (next_of p) refl stood h l.1 | inr i ↦ idle i.1 ]
  turned (turn.Take number y) stood h d = elim d [ inl l ↦ absurd (let f = told _ _ l.3 in cc) | inr i ↦ idle i.1 ]
  turned (turn.Refuse number) stood h d = elim d [ inl l ↦ absurd (let f = told _ _ l.2 in cc) | inr i ↦ idle i.1 ]

pub turn_puts_within : (v v' : View) (t : Turn) (e : Event) (x : ℕ) → IsWorld v → TurnsTo v t v' → v'.events ≡ v.events ++ e ∷ [] → e.act ≡ shown.Put x → x < length v.pages
turn_puts_within v v' t e x h r is puts = turned v v' r.place r.process x e is puts t r.stood h r.does
