-- A trail goes on by one mark.
use Rattle.std.proofs.Common.{ℕ, ◌≡◌, ◌≢◌, ◌⊎◌, ◌<◌, ◌++◌, true, false, Option, Some, None, zero, suc, List, [], ◌∷◌, length, arith, ap, sym, ◌∙◌, refl, inl, inr, append_assoc, append-nil}
use Rattle.std.specs.Prelude.{slice_get}
use Rattle.std.proofs.lemmas.Bool.{cases_eq}
use Rattle.std.proofs.lemmas.Option.{slice_get_within}
use Rattle.bl_model.specs.declared.operation.Reply.{Reply}
use Rattle.bl_page.specs.declared.page.Page.{Page}
use Rattle.bl_page.specs.Machine.{Name, Act, Steps, State, Phase}
use Rattle.bl_page.specs.Machine.Act.{Begin, End}
use Rattle.bl_page.specs.Machine.Phase.{Waiting, Running, Ended}
use Rattle.bl_claims.specs.Trails.{Said, Mark, Trail, entries_at, history_of, same_name, marks_of, DoesAt, SaysAt, IsPoint, Answered, IsMarked, Saw, LeadsOn, IsPhase, HasSaid}

get_old : {A : Type 0} (xs : List A) (y : A) (i : ℕ) → i < length xs → slice_get (xs ++ y ∷ []) i ≡ slice_get xs i
get_old [] y i h = absurd (omega arith)
get_old (x ∷ xs) y zero h = refl
get_old (x ∷ xs) y (suc i) h = get_old xs y i (omega arith)

get_last : {A : Type 0} (xs : List A) (y : A) → slice_get (xs ++ y ∷ []) (length xs) ≡ Some y
get_last [] y = refl
get_last (x ∷ xs) y = get_last xs y

get_cases : {A : Type 0} (xs : List A) (y : A) (i : ℕ) (x : A) → slice_get (xs ++ y ∷ []) i ≡ Some x → (slice_get xs i ≡ Some x) ⊎ ((i ≡ length xs) × (x ≡ y))
get_cases [] y zero x h = inr (refl, cc)
get_cases [] y (suc i) x h = cc
get_cases (z ∷ xs) y zero x h = inl h
get_cases (z ∷ xs) y (suc i) x h = elim (get_cases xs y i x h) [
  | inl e ↦ inl e
  | inr e ↦ inr (ap suc e.0, e.1)
]

pub name_cases : (p q : Name) → (p ≡ q) ⊎ (p ≢ q)
name_cases p q = elim (cases_eq p.pass q.pass) [
  | inl a ↦ elim (cases_eq p.number q.number) [
    | inl b ↦ inl (λ i. record { pass = a i; number = b i })
    | inr b ↦ inr (λ e. b (ap (λ n. n.number) e))
  ]
  | inr a ↦ inr (λ e. a (ap (λ n. n.pass) e))
]

pub same_self : (p : Name) → same_name p p ≡ true
same_self p = grind arith

pub not_same : (p q : Name) → p ≢ q → same_name p q ≡ false
not_same p q n = elim (cases_eq p.pass q.pass) [
  | inl a ↦ elim (cases_eq p.number q.number) [
    | inl b ↦ absurd (n (λ i. record { pass = a i; number = b i }))
    | inr b ↦ grind arith
  ]
  | inr a ↦ grind arith
]

module _ (trail : Trail) (m : Mark) where
  pub DoesAt-push : {i : ℕ} {p : Name} {act : Act Page Reply} → DoesAt trail i p act → DoesAt (trail ++ m ∷ []) i p act
  DoesAt-push {i} h = record { mark = h.mark; is = get_old trail m i (slice_get_within trail i h.mark h.is) ∙ h.is; event = h.event }

  pub SaysAt-push : {i : ℕ} {p : Name} {said : Said} → SaysAt trail i p said → SaysAt (trail ++ m ∷ []) i p said
  SaysAt-push {i} h = record { mark = h.mark; is = get_old trail m i (slice_get_within trail i h.mark h.is) ∙ h.is; own = h.own; says = h.says }

  -- the new mark's own event
  pub DoesAt-last : DoesAt (trail ++ m ∷ []) (length trail) m.event.process m.event.act
  DoesAt-last = record { mark = m; is = get_last trail m; event = refl }

  pub SaysAt-last : {said : Said} → m.said ≡ Some said → SaysAt (trail ++ m ∷ []) (length trail) m.event.process said
  SaysAt-last h = record { mark = m; is = get_last trail m; own = refl; says = h }

  pub DoesAt-cases : {i : ℕ} {p : Name} {act : Act Page Reply} → DoesAt (trail ++ m ∷ []) i p act → DoesAt trail i p act ⊎ ((i ≡ length trail) × (m.event ≡ record { process = p; act = act }))
  DoesAt-cases {i} h = elim (get_cases trail m i h.mark h.is) [
    | inl e ↦ inl (record { mark = h.mark; is = e; event = h.event })
    | inr e ↦ inr (e.0, ap (λ n. n.event) (sym e.1) ∙ h.event)
  ]

  pub SaysAt-cases : {i : ℕ} {p : Name} {said : Said} → SaysAt (trail ++ m ∷ []) i p said → SaysAt trail i p said ⊎ ((i ≡ length trail) × (m.event.process ≡ p) × (m.said ≡ Some said))
  SaysAt-cases {i} h = elim (get_cases trail m i h.mark h.is) [
    | inl e ↦ inl (record { mark = h.mark; is = e; own = h.own; says = h.says })
    | inr e ↦ inr (e.0, ap (λ n. n.event.process) (sym e.1) ∙ h.own, ap (λ n. n.said) (sym e.1) ∙ h.says)
  ]

  pub HasSaid-other : (p : Name) (said : Option Said) → m.event.process ≢ p → HasSaid trail p said → HasSaid (trail ++ m ∷ []) p said
  HasSaid-other p None n h = λ i said e. elim (SaysAt-cases e) [ inl o ↦ h i said o | inr o ↦ n o.1 ]
  HasSaid-other p (Some said) n h = (h.0, SaysAt-push h.1)

  pub HasSaid-silent : (p : Name) (said : Option Said) → m.said ≡ None → HasSaid trail p said → HasSaid (trail ++ m ∷ []) p said
  HasSaid-silent p None n h = λ i said e. elim (SaysAt-cases e) [ inl o ↦ h i said o | inr o ↦ cc (n, o.2) ]
  HasSaid-silent p (Some said) n h = (h.0, SaysAt-push h.1)

  pub IsPhase-other : (p : Name) (phase : Phase) → m.event.process ≢ p → IsPhase trail p phase → IsPhase (trail ++ m ∷ []) p phase
  IsPhase-other p Waiting n h = (λ i e. elim (DoesAt-cases e) [ inl o ↦ h.0 i o | inr o ↦ n (ap (λ v. v.process) o.1) ], λ i a e. elim (DoesAt-cases e) [ inl o ↦ h.1 i a o | inr o ↦ n (ap (λ v. v.process) o.1) ])
  IsPhase-other p (Running since) n h = ((h.0.0, DoesAt-push h.0.1), λ i a e. elim (DoesAt-cases e) [ inl o ↦ h.1 i a o | inr o ↦ n (ap (λ v. v.process) o.1) ])
  IsPhase-other p Ended n h = (h.0, DoesAt-push h.1)

  -- an event that is neither begin nor end
  pub IsPhase-inner : (p : Name) (phase : Phase) → m.event.act ≢ Begin → ((a : Option Reply) → m.event.act ≢ End a) → IsPhase trail p phase → IsPhase (trail ++ m ∷ []) p phase
  IsPhase-inner p Waiting b e h = (λ i d. elim (DoesAt-cases d) [ inl o ↦ h.0 i o | inr o ↦ b (ap (λ v. v.act) o.1) ], λ i a d. elim (DoesAt-cases d) [ inl o ↦ h.1 i a o | inr o ↦ e a (ap (λ v. v.act) o.1) ])
  IsPhase-inner p (Running since) b e h = ((h.0.0, DoesAt-push h.0.1), λ i a d. elim (DoesAt-cases d) [ inl o ↦ h.1 i a o | inr o ↦ e a (ap (λ v. v.act) o.1) ])
  IsPhase-inner p Ended b e h = (h.0, DoesAt-push h.1)

  pub IsPoint-push : {i : ℕ} {p : Name} → i < length trail → IsPoint trail i p → IsPoint (trail ++ m ∷ []) i p
  IsPoint-push {i} l h = record {
    begin = h.begin;
    before = h.before;
    begun = DoesAt-push h.begun;
    not_ended = λ j a le d. elim (DoesAt-cases d) [ inl o ↦ h.not_ended j a le o | inr o ↦ absurd (omega arith) ];
  }

-- what a new mark may say: at an inner event of a process that runs and has said nothing; and at an end what was said
pub record MaySay (trail : Trail) (m : Mark) : Type 0 where
  pub point : (said : Said) → m.said ≡ Some said → IsPhase trail m.event.process (Running 0) × HasSaid trail m.event.process None × ((a : Option Reply) → m.event.act ≢ End a)
  pub end : (a : Option Reply) → m.event.act ≡ End a → (m.said ≡ None) × Answered trail m.event.process a

Answered-push : (trail : Trail) (m : Mark) (p : Name) (a : Option Reply) → ((said : Said) → m.event.process ≡ p → m.said ≡ Some said → ⊥) → Answered trail p a → Answered (trail ++ m ∷ []) p a
Answered-push trail m p (Some r) n h = (h.0, h.1, SaysAt-push trail m h.2, h.3)
Answered-push trail m p None n h = λ i said e. elim (SaysAt-cases trail m e) [ inl o ↦ h i said o | inr o ↦ n said o.1 o.2 ]

pub IsMarked-push : (trail : Trail) (m : Mark) → MaySay trail m → IsMarked trail → IsMarked (trail ++ m ∷ [])
IsMarked-push trail m may g = record {
  points = λ i p said h. elim (SaysAt-cases trail m h) [
    | inl o ↦ IsPoint-push trail m (slice_get_within trail i o.mark o.is) (g.points i p said o)
    | inr o ↦
        let f = may.point said o.2 in
        let b : DoesAt trail f.0.0.0 m.event.process Begin = f.0.0.1 in
        record {
          begin = f.0.0.0;
          before = rw o.0 (slice_get_within trail f.0.0.0 b.mark b.is);
          begun = rw (← o.1) (DoesAt-push trail m b);
          not_ended = λ j a le d. elim (DoesAt-cases trail m d) [
            | inl e ↦ f.0.1 j a (rw (← o.1) at e)
            | inr e ↦ f.2 a (ap (λ v. v.act) e.1)
          ];
        }
  ];
  once = λ i j p said other h k. elim (SaysAt-cases trail m h) [
    | inl o ↦ elim (SaysAt-cases trail m k) [
      | inl q ↦ g.once i j p said other o q
      | inr q ↦ absurd ((may.point other q.2).1 i said (rw (← q.1) at o))
    ]
    | inr o ↦ elim (SaysAt-cases trail m k) [
      | inl q ↦ absurd ((may.point said o.2).1 j other (rw (← o.1) at q))
      | inr q ↦ o.0 ∙ sym q.0
    ]
  ];
  answered = λ i p a h. elim (DoesAt-cases trail m h) [
    | inl o ↦ Answered-push trail m p a (λ said e s. (may.point said s).0.1 i a (rw (← e) at o)) (g.answered i p a o)
    | inr o ↦
        let f = may.end a (ap (λ v. v.act) o.1) in
        Answered-push trail m p a (λ said e s. cc (f.0, s)) (rw (ap (λ v. v.process) o.1) at f.1)
  ];
}

pub LeadsOn-push : (s t u : State Page) (ms : Trail) (m : Mark) → LeadsOn s ms t → Steps t m.event u → Saw t m.event.act m.saw → LeadsOn s (ms ++ m ∷ []) u
LeadsOn-push s t u [] m h n w = (u, rw (← h) n, rw (← h) w, refl)
LeadsOn-push s t u (d ∷ ms) m h n w = (h.0, h.1, h.2, LeadsOn-push h.0 t u ms m h.3 n w)

pub history_of-push : (ms : Trail) (m : Mark) → history_of (ms ++ m ∷ []) ≡ history_of ms ++ entries_at m.event.process m.said
history_of-push [] m = append-nil (entries_at m.event.process m.said)
history_of-push (d ∷ ms) m = rw (history_of-push ms m) (sym (append_assoc (entries_at d.event.process d.said) (history_of ms) (entries_at m.event.process m.said)))

pub marks_of-own : (p : Name) (ms : Trail) (m : Mark) → m.event.process ≡ p → marks_of p (ms ++ m ∷ []) ≡ marks_of p ms ++ m ∷ []
marks_of-own p [] m e = (let s : same_name m.event.process p ≡ true = rw e (same_self p) in grind arith)
marks_of-own p (d ∷ ms) m e = grind (arith, marks_of-own p ms m e)

pub marks_of-other : (p : Name) (ms : Trail) (m : Mark) → m.event.process ≢ p → marks_of p (ms ++ m ∷ []) ≡ marks_of p ms
marks_of-other p [] m n = (let s : same_name m.event.process p ≡ false = not_same m.event.process p n in grind arith)
marks_of-other p (d ∷ ms) m n = grind (arith, marks_of-other p ms m n)
