-- Times are places of events, from one event to the next.
use Rattle.std.proofs.Common.{ℕ, ◌≡◌, ◌≢◌, ◌⊎◌, ◌<◌, ◌≤◌, ◌++◌, suc, Some, List, [], ◌∷◌, length, slice_get, arith, ap, sym, ◌∙◌, refl, subst, inl, inr}
use Rattle.std.proofs.lemmas.Bool.{cases_eq}
use Rattle.std.proofs.lemmas.Option.{slice_get_within}
use Rattle.bl_model.specs.declared.operation.Reply.{Reply}
use Rattle.bl_page.specs.declared.page.Page.{Page}
use Rattle.bl_page.specs.Machine.{Name, Owner, State, Act as MachineAct, Enabled, Changes, IsAt}
use Rattle.bl_page.specs.Machine.Act.{Begin, End, Get, Put, Take, Latch, Retire, Look, Release, Miss}
use Rattle.bl_page.specs.Machine.Looked.{Process, Page as OfPage}
use Rattle.bl_page.specs.Machine.Owner.{Released, Retired}
use Rattle.bl_page.specs.Machine.Phase.{Waiting, Running, Ended}
use Rattle.bl_tree_worlds.proofs.Pushes.{name_cases}
use Rattle.bl_tree_worlds.specs.Worlds.{World as ModelWorld}
use Rattle.bl_proc_invariant.specs.Knowing.{Run}
use Rattle.bl_world.specs.declared.turns.Act.{Act}
use Rattle.bl_world.specs.declared.turns.Act.TheVariants as shown
use Rattle.bl_world.specs.declared.turns.Event.{Event}
use Rattle.bl_world.specs.Views.{name_of, act_shown}
use Rattle.bl_world.specs.Retirements.{Stands, IsRetired}
use Rattle.bl_world.specs.Worlds.{HasTimes}
use Rattle.bl_world.proofs.Places.{push_length, push_cases}
use Rattle.bl_world.proofs.Retired.{push_old, push_new, push_agree, agree_back, retired_same, retired_on, retired_new, retired_back, retired_now, not_released, retire_cases, release_cases}

-- an event that changes the owner of at most one page leaves one that is retired so, unless it releases it
kept_at : (x y k : ℕ) (o p : Owner) (before after : ℕ → Owner) → IsAt x o before after → before x ≡ p → p ≢ Retired k → before y ≡ Retired k → after y ≡ Retired k
kept_at x y k o p before after at is ne r = elim (cases_eq y x) [
  | inl e ↦ absurd (ne (sym is ∙ (ap before (sym e) ∙ r)))
  | inr n ↦ at.others y n ∙ r
]

back_at : (x y k : ℕ) (o : Owner) (before after : ℕ → Owner) → IsAt x o before after → o ≢ Retired k → after y ≡ Retired k → before y ≡ Retired k
back_at x y k o before after at ne r = elim (cases_eq y x) [
  | inl e ↦ absurd (ne (sym at.at ∙ (ap after (sym e) ∙ r)))
  | inr n ↦ sym (at.others y n) ∙ r
]

-- a page that is retired stays so, unless this event releases it
pub stays_retired : (s s' : State Page) (p : Name) (a : MachineAct Page Reply) (x k : ℕ) → Enabled s p a → Changes s p a s' → act_shown a ≢ shown.Release x → s.owner x ≡ Retired k → s'.owner x ≡ Retired k
stays_retired s s' p Begin x k e c n r = c.1 x ∙ r
stays_retired s s' p (End answer) x k e c n r = c.1 x ∙ r
stays_retired s s' p (Get y) x k e c n r = c.1 x ∙ r
stays_retired s s' p (Put y d) x k e c n r = c.1 x ∙ r
stays_retired s s' p (Take y) x k e c n r = kept_at y x k _ _ s.owner s'.owner c.1 e (λ f. cc) r
stays_retired s s' p (Latch y) x k e c n r = kept_at y x k _ _ s.owner s'.owner c.1 e (λ f. cc) r
stays_retired s s' p (MachineAct.Open y) x k e c n r = kept_at y x k _ _ s.owner s'.owner c.1 e (λ f. cc) r
stays_retired s s' p (Retire y) x k e c n r = kept_at y x k _ _ s.owner s'.owner c.3.1 e (λ f. cc) r
stays_retired s s' p (Look it) x k e c n r = c.1 x ∙ r
stays_retired s s' p (Release y) x k e c n r = elim (cases_eq x y) [
  | inl same ↦ absurd (n (ap shown.Release (sym same)))
  | inr ne ↦ c.1.others x ne ∙ r
]
stays_retired s s' p (Miss what) x k e c n r = c.1 x ∙ r

-- a page that is retired was so before, or this event retired it
pub was_retired : (s s' : State Page) (p : Name) (a : MachineAct Page Reply) (x k : ℕ) → Changes s p a s' → s'.owner x ≡ Retired k → ((s.owner x ≡ Retired k) × (act_shown a ≢ shown.Release x)) ⊎ ((act_shown a ≡ shown.Retire x) × (s.clock ≤ k) × (k < s'.clock))
was_retired s s' p Begin x k c r = inl (sym (c.1 x) ∙ r, λ f. cc)
was_retired s s' p (End answer) x k c r = inl (sym (c.1 x) ∙ r, λ f. cc)
was_retired s s' p (Get y) x k c r = inl (sym (c.1 x) ∙ r, λ f. cc)
was_retired s s' p (Put y d) x k c r = inl (sym (c.1 x) ∙ r, λ f. cc)
was_retired s s' p (Take y) x k c r = inl (back_at y x k _ s.owner s'.owner c.1 (λ f. cc) r, λ f. cc)
was_retired s s' p (Latch y) x k c r = inl (back_at y x k _ s.owner s'.owner c.1 (λ f. cc) r, λ f. cc)
was_retired s s' p (MachineAct.Open y) x k c r = inl (back_at y x k _ s.owner s'.owner c.1 (λ f. cc) r, λ f. cc)
was_retired s s' p (Retire y) x k c r = elim (cases_eq x y) [
  | inl same ↦ (let f : Retired k ≡ Retired c.0 = sym r ∙ (ap s'.owner same ∙ c.3.1.at) in let g : k ≡ c.0 = cc in inr (ap shown.Retire (sym same), omega (arith, g, c.1), omega (arith, g, c.2)))
  | inr ne ↦ inl (sym (c.3.1.others x ne) ∙ r, λ f. cc)
]
was_retired s s' p (Look (Process q)) x k c r = inl (sym (c.1 x) ∙ r, λ f. cc)
was_retired s s' p (Look (OfPage y)) x k c r = inl (sym (c.1 x) ∙ r, λ f. cc)
was_retired s s' p (Release y) x k c r = elim (cases_eq x y) [
  | inl same ↦ absurd (let f : Released ≡ Retired k = sym c.1.at ∙ (ap s'.owner (sym same) ∙ r) in cc)
  | inr ne ↦ inl (sym (c.1.others x ne) ∙ r, λ f. ne (let g : shown.Release y ≡ shown.Release x = f in cc))
]
was_retired s s' p (Miss what) x k c r = inl (sym (c.1 x) ∙ r, λ f. cc)

-- an event that retires a page does so at its time
pub retires_now : (s s' : State Page) (p : Name) (a : MachineAct Page Reply) (x : ℕ) → Changes s p a s' → act_shown a ≡ shown.Retire x → (k : ℕ) × (s.clock ≤ k) × (k < s'.clock) × (s'.owner x ≡ Retired k)
retires_now s s' p (Retire y) x c e = (let f : y ≡ x = cc in (c.0, c.1, c.2, ap s'.owner (sym f) ∙ c.3.1.at))
retires_now s s' p (Look (Process q)) x c e = absurd cc
retires_now s s' p old x c e = absurd cc

-- a process that runs did so before, or this event is its begin
pub was_running : (s s' : State Page) (p q : Name) (a : MachineAct Page Reply) (since : ℕ) → Changes s p a s' → s'.phase q ≡ Running since → (s.phase q ≡ Running since) ⊎ ((q ≡ p) × (act_shown a ≡ shown.Begin) × (s.clock ≤ since))
was_running s s' p q Begin since c r = elim (name_cases q p) [
  | inl e ↦ (let f : Running since ≡ Running c.2.0 = sym r ∙ (ap s'.phase e ∙ c.2.3.at) in let g : since ≡ c.2.0 = cc in inr (e, refl, omega (arith, g, c.2.1)))
  | inr n ↦ inl (sym (c.2.3.others q n) ∙ r)
]
was_running s s' p q (End answer) since c r = elim (name_cases q p) [
  | inl e ↦ absurd (let f : Running since ≡ Ended = sym r ∙ (ap s'.phase e ∙ c.2.at) in cc)
  | inr n ↦ inl (sym (c.2.others q n) ∙ r)
]
was_running s s' p q (Get x) since c r = inl (sym (c.2 q) ∙ r)
was_running s s' p q (Put x d) since c r = inl (sym (c.2 q) ∙ r)
was_running s s' p q (Take x) since c r = inl (sym (c.2 q) ∙ r)
was_running s s' p q (Latch x) since c r = inl (sym (c.2 q) ∙ r)
was_running s s' p q (MachineAct.Open x) since c r = inl (sym (c.2 q) ∙ r)
was_running s s' p q (Retire x) since c r = inl (sym (c.3.2 q) ∙ r)
was_running s s' p q (Look it) since c r = inl (sym (c.2 q) ∙ r)
was_running s s' p q (Release x) since c r = inl (sym (c.2 q) ∙ r)
was_running s s' p q (Miss what) since c r = inl (sym (c.2 q) ∙ r)

-- a process that has not ended had not, and this is not its end
pub had_not_ended : (s s' : State Page) (p q : Name) (a : MachineAct Page Reply) → Enabled s p a → Changes s p a s' → s'.phase q ≢ Ended → (s.phase q ≢ Ended) × ((q ≡ p) → act_shown a ≢ shown.End)
had_not_ended s s' p q Begin e c n = (
  λ f. elim (name_cases q p) [ inl i ↦ (let g : Ended ≡ Waiting = sym f ∙ (ap s.phase i ∙ e) in cc) | inr ne ↦ n (c.2.3.others q ne ∙ f) ],
  λ i f. cc,
)
had_not_ended s s' p q (End answer) e c n = (
  λ f. elim (name_cases q p) [ inl i ↦ n (ap s'.phase i ∙ c.2.at) | inr ne ↦ n (c.2.others q ne ∙ f) ],
  λ i f. n (ap s'.phase i ∙ c.2.at),
)
had_not_ended s s' p q (Get x) e c n = (λ f. n (c.2 q ∙ f), λ i f. cc)
had_not_ended s s' p q (Put x d) e c n = (λ f. n (c.2 q ∙ f), λ i f. cc)
had_not_ended s s' p q (Take x) e c n = (λ f. n (c.2 q ∙ f), λ i f. cc)
had_not_ended s s' p q (Latch x) e c n = (λ f. n (c.2 q ∙ f), λ i f. cc)
had_not_ended s s' p q (MachineAct.Open x) e c n = (λ f. n (c.2 q ∙ f), λ i f. cc)
had_not_ended s s' p q (Retire x) e c n = (λ f. n (c.3.2 q ∙ f), λ i f. cc)
had_not_ended s s' p q (Look (Process r)) e c n = (λ f. n (c.2 q ∙ f), λ i f. cc)
had_not_ended s s' p q (Look (OfPage x)) e c n = (λ f. n (c.2 q ∙ f), λ i f. cc)
had_not_ended s s' p q (Release x) e c n = (λ f. n (c.2 q ∙ f), λ i f. cc)
had_not_ended s s' p q (Miss what) e c n = (λ f. n (c.2 q ∙ f), λ i f. cc)

-- the world after one event of the process at place n, at which the clock moves on by one
module _ (w w' : ModelWorld Run) (events : List Event) (n : ℕ) (a : MachineAct Page Reply) (can : Enabled w.now (name_of (suc n)) a) (changes : Changes w.now (name_of (suc n)) a w'.now) (on : w'.now.clock ≡ suc w.now.clock) (t : HasTimes w events) where
  abbrev new : Event
  new = record { process = suc n; act = act_shown a }

  abbrev more : List Event
  more = events ++ new ∷ []

  count : length more ≡ suc (length events)
  count = push_length events new

  here : slice_get more (length events) ≡ Some new
  here = push_new events new

  old_retired : (x k : ℕ) → IsRetired events x k (length events) → IsRetired more x k (length events)
  old_retired x k r = retired_same events more (length events) (push_agree events new (length events) (omega arith)) x k r

  retired : (x k : ℕ) → w'.now.owner x ≡ Retired k → IsRetired more x k (length more)
  retired x k r = subst (IsRetired more x k) (sym count) (elim (was_retired w.now w'.now (name_of (suc n)) a x k changes r) [
    | inl was ↦ elim (retire_cases (act_shown a) x) [
      | inl hit ↦
          let now = retires_now w.now w'.now (name_of (suc n)) a x changes hit in
          let same : Retired k ≡ Retired now.0 = sym r ∙ now.3 in
          let e : k ≡ length events = (let f : k ≡ now.0 = cc in omega (arith, f, now.1, now.2, on, t.clock)) in
          subst (λ z. IsRetired more x z (suc (length events))) (sym e) (retired_new more (length events) new here x hit)
      | inr else_so ↦ retired_on more (length events) new here x k else_so was.1 (old_retired x k (t.retired x k was.0))
    ]
    | inr now ↦
        let e : k ≡ length events = omega (arith, now.1, now.2, on, t.clock) in
        subst (λ z. IsRetired more x z (suc (length events))) (sym e) (retired_new more (length events) new here x now.0)
  ])

  only : (x k : ℕ) → IsRetired more x k (length more) → w'.now.owner x ≡ Retired k
  only x k given =
      let r : IsRetired more x k (suc (length events)) = subst (IsRetired more x k) count given in
      elim (retire_cases (act_shown a) x) [
        | inl hit ↦
            let now = retires_now w.now w'.now (name_of (suc n)) a x changes hit in
            let is = retired_now more (length events) new here x k hit r in
            now.3 ∙ ap Retired (let f : now.0 ≡ k = omega (arith, is, now.1, now.2, on, t.clock) in f)
        | inr else_so ↦ elim (release_cases (act_shown a) x) [
          | inl hit ↦ absurd (not_released more (length events) new here x k hit r)
          | inr not ↦
              let before = retired_back more (length events) new here x k else_so r in
              stays_retired w.now w'.now (name_of (suc n)) a x k can changes not
              (t.only x k (retired_same more events (length events) (agree_back events more (length events) (push_agree events new (length events) (omega arith))) x k before))
        ]
      ]

  began : (number since : ℕ) → w'.now.phase (name_of number) ≡ Running since → (i : ℕ) × (i ≤ since) × Stands more i number shown.Begin
  began number since r = elim (was_running w.now w'.now (name_of (suc n)) (name_of number) a since changes r) [
    | inl was ↦ (let o = t.began number since was in (o.0, o.1, old_stands o.0 number shown.Begin o.2))
    | inr now ↦
        let same : number ≡ suc n = ap (λ z. z.pass) now.0 in
        (length events, omega (arith, now.2, t.clock), here ∙ (λ i. Some (record { process = sym same i; act = now.1 i })))
  ]
    where
      old_stands : (i number : ℕ) (act : Act) → Stands events i number act → Stands more i number act
      old_stands i number act s = push_old events new i (slice_get_within events i _ s) ∙ s

  going : (number : ℕ) → w'.now.phase (name_of number) ≢ Ended → (j : ℕ) → ¬ Stands more j number shown.End
  going number ne j s =
      let before = had_not_ended w.now w'.now (name_of (suc n)) (name_of number) a can changes ne in
      elim (push_cases events new j _ s) [
        | inl old ↦ t.going number before.0 j old
        | inr is ↦
            let same : number ≡ suc n = ap (λ z. z.process) is.1 in
            before.1 (ap name_of same) (sym (ap (λ z. z.act) is.1))
      ]

  pub times_on : HasTimes w' more
  times_on = record { clock = on ∙ (ap suc t.clock ∙ sym count); retired = retired; only = only; began = began; going = going }
