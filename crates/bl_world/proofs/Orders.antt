-- A process begins once and ends once in a legal step list, so that the points of operations lie as their times do.
use Rattle.std.proofs.Common.{ℕ, ◌≡◌, ◌≢◌, ◌⊎◌, Option, Some, zero, suc, [], ◌∷◌, arith, ap, sym, ◌∙◌, refl, inl, inr}
use Rattle.std.proofs.lemmas.Bool.{cases_lt}
use Rattle.bl_model.specs.declared.operation.Reply.{Reply}
use Rattle.bl_page.specs.declared.page.Page.{Page}
use Rattle.bl_page.specs.Machine.{Name, State, Phase, Act, Event, Changes, Steps}
use Rattle.bl_page.specs.Machine.Act.{Begin, End, Get, Put, Take, Latch, Open, Retire, Look, Release, Miss}
use Rattle.bl_page.specs.Machine.Owner.{Released}
use Rattle.bl_page.specs.Machine.Phase.{Waiting, Running, Ended}
use Rattle.bl_claims.specs.Trails.{Mark, Trail, DoesAt, IsMarked, LeadsOn}
use Rattle.bl_tree_worlds.proofs.Pushes.{name_cases}
use Rattle.bl_world.specs.Accounts.{NoneReleased, IsOrdered}

-- who has begun has begun
stays_begun : (s s' : State Page) (p q : Name) (a : Act Page Reply) → Changes s p a s' → s.phase q ≢ Waiting → s'.phase q ≢ Waiting
stays_begun s s' p q Begin c n = λ e. elim (name_cases q p) [
  | inl i ↦ (let f : s'.phase q ≡ Running c.2.0 = ap s'.phase i ∙ c.2.3.at in cc)
  | inr i ↦ n (sym (c.2.3.others q i) ∙ e)
]
stays_begun s s' p q (End answer) c n = λ e. elim (name_cases q p) [
  | inl i ↦ (let f : s'.phase q ≡ Ended = ap s'.phase i ∙ c.2.at in cc)
  | inr i ↦ n (sym (c.2.others q i) ∙ e)
]
stays_begun s s' p q (Get x) c n = λ e. n (sym (c.2 q) ∙ e)
stays_begun s s' p q (Put x d) c n = λ e. n (sym (c.2 q) ∙ e)
stays_begun s s' p q (Take x) c n = λ e. n (sym (c.2 q) ∙ e)
stays_begun s s' p q (Latch x) c n = λ e. n (sym (c.2 q) ∙ e)
stays_begun s s' p q (Open x) c n = λ e. n (sym (c.2 q) ∙ e)
stays_begun s s' p q (Retire x) c n = λ e. n (sym (c.3.2 q) ∙ e)
stays_begun s s' p q (Look it) c n = λ e. n (sym (c.2 q) ∙ e)
stays_begun s s' p q (Release x) c n = λ e. n (sym (c.2 q) ∙ e)
stays_begun s s' p q (Miss what) c n = λ e. n (sym (c.2 q) ∙ e)

-- the first event of a trail, if it is the begin of q
first_is : (m mark : Mark) (q : Name) (a : Act Page Reply) → Some m ≡ Some mark → mark.event ≡ record { process = q; act = a } → m.event ≡ record { process = q; act = a }
first_is m mark q a is e = (let f : m ≡ mark = cc in ap (λ z. z.event) f ∙ e)

begins_waiting : (s s' : State Page) (e : Event Page Reply) (q : Name) → Steps s e s' → e ≡ record { process = q; act = Begin } → (s.phase q ≡ Waiting) × (s'.phase q ≢ Waiting)
begins_waiting s s' e q t is =
    let u : Steps {A = Reply} s (record { process = q; act = Begin }) s' = rw is at t in
    (u.enabled, λ w. (let f = u.changes.2.3.at in cc))

never_begins : (s s' : State Page) (trail : Trail) (q : Name) (i : ℕ) → s.phase q ≢ Waiting → LeadsOn s trail s' → DoesAt trail i q Begin → ⊥
never_begins s s' [] q i n l d = (let e = d.is in cc)
never_begins s s' (m ∷ ms) q zero n l d = n (begins_waiting s l.0 m.event q l.1 (first_is m d.mark q Begin d.is d.event)).0
never_begins s s' (m ∷ ms) q (suc i) n l d = never_begins l.0 s' ms q i (stays_begun s l.0 m.event.process q m.event.act l.1.changes n) l.3 (record { mark = d.mark; is = d.is; event = d.event })

pub begins_once : (s s' : State Page) (trail : Trail) (q : Name) (i j : ℕ) → LeadsOn s trail s' → DoesAt trail i q Begin → DoesAt trail j q Begin → i ≡ j
begins_once s s' [] q i j l d e = (let f = d.is in cc)
begins_once s s' (m ∷ ms) q zero zero l d e = refl
begins_once s s' (m ∷ ms) q zero (suc j) l d e = absurd (never_begins l.0 s' ms q j (begins_waiting s l.0 m.event q l.1 (first_is m d.mark q Begin d.is d.event)).1 l.3 (record { mark = e.mark; is = e.is; event = e.event }))
begins_once s s' (m ∷ ms) q (suc i) zero l d e = absurd (never_begins l.0 s' ms q i (begins_waiting s l.0 m.event q l.1 (first_is m e.mark q Begin e.is e.event)).1 l.3 (record { mark = d.mark; is = d.is; event = d.event }))
begins_once s s' (m ∷ ms) q (suc i) (suc j) l d e = ap suc (begins_once l.0 s' ms q i j l.3 (record { mark = d.mark; is = d.is; event = d.event }) (record { mark = e.mark; is = e.is; event = e.event }))

pub ordered : (s s' : State Page) (trail : Trail) → LeadsOn s trail s' → IsMarked trail → IsOrdered trail
ordered s s' trail l marked i j end begin p q said other reply says says' ends begins lt =
    let first = marked.points i p said says in
    let second = marked.points j q other says' in
    let same = begins_once s s' trail q second.begin begin l second.begun begins in
    let before = second.before in
    elim (cases_lt i end) [
      | inl h ↦ omega (arith, h, lt, same, before)
      | inr h ↦ absurd (first.not_ended end reply h ends)
    ]

-- who has ended has an end in the trail
ended_cases : (phase : Phase) → (phase ≡ Ended) ⊎ (phase ≢ Ended)
ended_cases Waiting = inr (λ e. cc)
ended_cases (Running since) = inr (λ e. cc)
ended_cases Ended = inl refl

ends_by : (s s' : State Page) (p q : Name) (a : Act Page Reply) → Changes s p a s' → s.phase q ≢ Ended → s'.phase q ≡ Ended → (p ≡ q) × ((reply : Option Reply) × (a ≡ End reply))
ends_by s s' p q Begin c n e = elim (name_cases q p) [
  | inl i ↦ absurd (let f : s'.phase q ≡ Running c.2.0 = ap s'.phase i ∙ c.2.3.at in cc)
  | inr i ↦ absurd (n (sym (c.2.3.others q i) ∙ e))
]
ends_by s s' p q (End answer) c n e = elim (name_cases q p) [
  | inl i ↦ (sym i, (answer, refl))
  | inr i ↦ absurd (n (sym (c.2.others q i) ∙ e))
]
ends_by s s' p q (Get x) c n e = absurd (n (sym (c.2 q) ∙ e))
ends_by s s' p q (Put x d) c n e = absurd (n (sym (c.2 q) ∙ e))
ends_by s s' p q (Take x) c n e = absurd (n (sym (c.2 q) ∙ e))
ends_by s s' p q (Latch x) c n e = absurd (n (sym (c.2 q) ∙ e))
ends_by s s' p q (Open x) c n e = absurd (n (sym (c.2 q) ∙ e))
ends_by s s' p q (Retire x) c n e = absurd (n (sym (c.3.2 q) ∙ e))
ends_by s s' p q (Look it) c n e = absurd (n (sym (c.2 q) ∙ e))
ends_by s s' p q (Release x) c n e = absurd (n (sym (c.2 q) ∙ e))
ends_by s s' p q (Miss what) c n e = absurd (n (sym (c.2 q) ∙ e))

pub ended_in : (s s' : State Page) (trail : Trail) (q : Name) → s.phase q ≢ Ended → LeadsOn s trail s' → s'.phase q ≡ Ended → (i : ℕ) × ((reply : Option Reply) × DoesAt trail i q (End reply))
ended_in s s' [] q n l e = absurd (n (sym (ap (λ z. z.phase q) l) ∙ e))
ended_in s s' (m ∷ ms) q n l e = elim (ended_cases (l.0.phase q)) [
  | inl h ↦
      let b = ends_by s l.0 m.event.process q m.event.act l.1.changes n h in
      (0, (b.1.0, record { mark = m; is = refl; event = λ i. record { process = b.0 i; act = b.1.1 i } }))
  | inr h ↦
      let r = ended_in l.0 s' ms q h l.3 e in
      (suc r.0, (r.1.0, record { mark = r.1.1.mark; is = r.1.1.is; event = r.1.1.event }))
]

-- before a get its page is not released
get_unreleased : (s s' : State Page) (e : Event Page Reply) (q : Name) (x : ℕ) → Steps s e s' → e ≡ record { process = q; act = Get x } → s.owner x ≢ Released
get_unreleased s s' e q x t is = (let u : Steps {A = Reply} s (record { process = q; act = Get x }) s' = rw is at t in u.enabled.1)

pub none_released : (s s' : State Page) (trail : Trail) → LeadsOn s trail s' → NoneReleased s trail
none_released s s' [] l i q x d = absurd (let e = d.is in cc)
none_released s s' (m ∷ ms) l zero q x d = (s, refl, get_unreleased s l.0 m.event q x l.1 (first_is m d.mark q (Get x) d.is d.event))
none_released s s' (m ∷ ms) l (suc i) q x d =
    let r = none_released l.0 s' ms l.3 i q x (record { mark = d.mark; is = d.is; event = d.event }) in
    (r.0, (l.0, l.1, l.2, r.1), r.2)
