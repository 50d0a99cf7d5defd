-- What events tell of retirements does not change when more events come, and is told from one event to the next.
use Rattle.std.proofs.Common.{ℕ, ◌≡◌, ◌≢◌, ◌⊎◌, ◌<◌, ◌≤◌, ◌+◌, ◌++◌, ◌↔◌, zero, suc, Option, Some, None, Bool, true, false, IsTrue, List, [], ◌∷◌, length, slice_get, arith, ap, sym, ◌∙◌, refl, subst, inl, inr}
use Rattle.std.proofs.lemmas.Bool.{cases_eq, cases_order, false≢true}
use Rattle.std.proofs.lemmas.Option.{slice_get_within}
use Rattle.bl_world.specs.declared.turns.Act.{Act}
use Rattle.bl_world.specs.declared.turns.Act.TheVariants as shown
use Rattle.bl_world.specs.declared.turns.Event.{Event}
use Rattle.bl_world.specs.Retirements.{Stands, IsRetired, HasSeen, Blocks}

pub push_old : {A : Type 0} (xs : List A) (y : A) (j : ℕ) → j < length xs → slice_get (xs ++ y ∷ []) j ≡ slice_get xs j
push_old [] y j l = absurd (omega (arith, l))
push_old (x ∷ xs) y zero l = refl
push_old (x ∷ xs) y (suc j) l = push_old xs y j (omega (arith, l))

pub push_new : {A : Type 0} (xs : List A) (y : A) → slice_get (xs ++ y ∷ []) (length xs) ≡ Some y
push_new [] y = refl
push_new (x ∷ xs) y = push_new xs y

pub next_is : (i : ℕ) → i + 1 ≡ suc i
next_is i = omega arith

-- The first i events are the same.
abbrev pub Agree : List Event → List Event → ℕ → Type 0
Agree es fs i = (j : ℕ) → j < i → slice_get fs j ≡ slice_get es j

pub push_agree : (es : List Event) (e : Event) (i : ℕ) → i ≤ length es → Agree es (es ++ e ∷ []) i
push_agree es e i le j l = push_old es e j (omega (arith, le, l))

pub agree_back : (es fs : List Event) (i : ℕ) → Agree es fs i → Agree fs es i
agree_back es fs i a j l = sym (a j l)

module _ (es fs : List Event) (i : ℕ) (agree : Agree es fs i) where
  pub retired_same : (x k : ℕ) → IsRetired es x k i → IsRetired fs x k i
  retired_same x k r = record {
    before = r.before;
    by = r.by;
    retires = agree k r.before ∙ r.retires;
    not_again = λ j n more less s. r.not_again j n more less (sym (agree j less) ∙ s);
    kept = λ j n more less s. r.kept j n more less (sym (agree j less) ∙ s);
  }

  pub blocks_same : (n k : ℕ) → k ≤ i → Blocks es n k i → Blocks fs n k i
  blocks_same n k le b = record {
    place = b.place;
    before = b.before;
    begins = agree b.place (let before = b.before in omega (arith, le)) ∙ b.begins;
    runs = λ j less s. b.runs j less (sym (agree j less) ∙ s);
  }

pub seen_same : (es fs : List Event) (i : ℕ) → Agree es fs i → (n x k : ℕ) → HasSeen es n x k i → HasSeen fs n x k i
seen_same es fs i agree n x k s = record {
  place = s.place;
  before = s.before;
  sees = agree s.place s.before ∙ s.sees;
  last = λ j more less t. s.last j more less (sym (agree j less) ∙ t);
  retired = retired_same es fs s.place (λ j l. agree j (let before = s.before in omega (arith, l))) x k s.retired;
}

-- One event stands at a place.
pub one_at : (es : List Event) (i : ℕ) (e f : Event) → slice_get es i ≡ Some e → slice_get es i ≡ Some f → e ≡ f
one_at es i e f a b = (let c : Some e ≡ Some f = sym a ∙ b in cc)

pub seen_of_event : (es : List Event) (i n x : ℕ) (e : Event) → slice_get es i ≡ Some e → Stands es i n (shown.See x) → e ≡ record { process = n; act = shown.See x }
seen_of_event es i n x e here s = one_at es i e _ here s

pub act_at : (es : List Event) (i : ℕ) (e : Event) (n : ℕ) (act : Act) → slice_get es i ≡ Some e → Stands es i n act → e.act ≡ act
act_at es i e n act here s = ap (λ z. z.act) (one_at es i e _ here s)

module _ (es : List Event) (i : ℕ) (e : Event) (here : slice_get es i ≡ Some e) (x : ℕ) where
  pub retired_on : (k : ℕ) → e.act ≢ shown.Retire x → e.act ≢ shown.Release x → IsRetired es x k i → IsRetired es x k (suc i)
  retired_on k retires releases r = record {
    before = (let l = r.before in omega (arith, l));
    by = r.by;
    retires = r.retires;
    not_again = λ j n more less s. elim (cases_eq j i) [
      | inl same ↦ retires (act_at es i e n (shown.Retire x) here (subst (λ z. Stands es z n (shown.Retire x)) same s))
      | inr ne ↦ r.not_again j n more (omega (arith, less, ne)) s
    ];
    kept = λ j n more less s. elim (cases_eq j i) [
      | inl same ↦ releases (act_at es i e n (shown.Release x) here (subst (λ z. Stands es z n (shown.Release x)) same s))
      | inr ne ↦ r.kept j n more (omega (arith, less, ne)) s
    ];
  }

  pub retired_new : e.act ≡ shown.Retire x → IsRetired es x i (suc i)
  retired_new is = record {
    before = omega arith;
    by = e.process;
    retires = here ∙ ap (λ z. Some (record { process = e.process; act = z })) is;
    not_again = λ j n more less s. absurd (omega (arith, more, less));
    kept = λ j n more less s. absurd (omega (arith, more, less));
  }

  -- what is retired after the event was so before, or the event retired it
  pub retired_back : (k : ℕ) → e.act ≢ shown.Retire x → IsRetired es x k (suc i) → IsRetired es x k i
  retired_back k retires r = record {
    before = elim (cases_eq k i) [
      | inl same ↦ absurd (retires (act_at es i e r.by (shown.Retire x) here (subst (λ z. Stands es z r.by (shown.Retire x)) same r.retires)))
      | inr ne ↦ (let l = r.before in omega (arith, ne, l))
    ];
    by = r.by;
    retires = r.retires;
    not_again = λ j n more less s. r.not_again j n more (omega (arith, less)) s;
    kept = λ j n more less s. r.kept j n more (omega (arith, less)) s;
  }

  pub retired_now : (k : ℕ) → e.act ≡ shown.Retire x → IsRetired es x k (suc i) → k ≡ i
  retired_now k is r = elim (cases_eq k i) [
    | inl same ↦ same
    | inr ne ↦ absurd (r.not_again i e.process (let l = r.before in omega (arith, ne, l)) (omega arith) (here ∙ ap (λ z. Some (record { process = e.process; act = z })) is))
  ]

  pub not_released : (k : ℕ) → e.act ≡ shown.Release x → IsRetired es x k (suc i) → ⊥
  not_released k is r = elim (cases_eq k i) [
    | inl same ↦ (let f : shown.Release x ≡ shown.Retire x = sym is ∙ act_at es i e r.by (shown.Retire x) here (subst (λ z. Stands es z r.by (shown.Retire x)) same r.retires) in cc)
    | inr ne ↦ r.kept i e.process (let l = r.before in omega (arith, ne, l)) (omega arith) (here ∙ ap (λ z. Some (record { process = e.process; act = z })) is)
  ]

pub retired_one : (es : List Event) (x k l i : ℕ) → IsRetired es x k i → IsRetired es x l i → k ≡ l
retired_one es x k l i r s = elim (cases_order k l) [
  | inl same ↦ same
  | inr order ↦ elim order [
    | inl less ↦ absurd (r.not_again l s.by less s.before s.retires)
    | inr more ↦ absurd (s.not_again k r.by more r.before r.retires)
  ]
]

module _ (es : List Event) (i n x : ℕ) where
  pub seen_on : (k : ℕ) → (¬ Stands es i n (shown.See x)) → HasSeen es n x k i → HasSeen es n x k (suc i)
  seen_on k not s = record {
    place = s.place;
    before = (let l = s.before in omega (arith, l));
    sees = s.sees;
    last = λ j more less t. elim (cases_eq j i) [
      | inl same ↦ not (subst (λ z. Stands es z n (shown.See x)) same t)
      | inr ne ↦ s.last j more (omega (arith, less, ne)) t
    ];
    retired = s.retired;
  }

  pub seen_new : (k : ℕ) → Stands es i n (shown.See x) → IsRetired es x k i → HasSeen es n x k (suc i)
  seen_new k here r = record { place = i; before = omega arith; sees = here; last = λ j more less t. absurd (omega (arith, more, less)); retired = r }

  pub seen_back : (k : ℕ) → (¬ Stands es i n (shown.See x)) → HasSeen es n x k (suc i) → HasSeen es n x k i
  seen_back k not s = record {
    place = s.place;
    before = elim (cases_eq s.place i) [
      | inl same ↦ absurd (not (subst (λ z. Stands es z n (shown.See x)) same s.sees))
      | inr ne ↦ (let l = s.before in omega (arith, ne, l))
    ];
    sees = s.sees;
    last = λ j more less t. s.last j more (omega (arith, less)) t;
    retired = s.retired;
  }

  pub seen_now : (k : ℕ) → Stands es i n (shown.See x) → HasSeen es n x k (suc i) → IsRetired es x k i
  seen_now k here s = elim (cases_eq s.place i) [
    | inl same ↦ subst (IsRetired es x k) same s.retired
    | inr ne ↦ absurd (s.last i (let l = s.before in omega (arith, ne, l)) (omega arith) here)
  ]

pub seen_one : (es : List Event) (n x k l i : ℕ) → HasSeen es n x k i → HasSeen es n x l i → k ≡ l
seen_one es n x k l i s t = elim (cases_order s.place t.place) [
  | inl same ↦ retired_one es x k l t.place (subst (IsRetired es x k) same s.retired) t.retired
  | inr order ↦ elim order [
    | inl less ↦ absurd (s.last t.place less t.before t.sees)
    | inr more ↦ absurd (t.last s.place more s.before s.sees)
  ]
]

-- What the first i events tell: since when page x is retired, and since when the process has seen it retired.
pub record Knows (es : List Event) (n x i : ℕ) (retired seen : Option ℕ) : Type 0 where
  pub retired_is : (k : ℕ) → (retired ≡ Some k → IsRetired es x k i) × (IsRetired es x k i → retired ≡ Some k)
  pub seen_is : (k : ℕ) → (seen ≡ Some k → HasSeen es n x k i) × (HasSeen es n x k i → seen ≡ Some k)

pub retire_cases : (a : Act) (x : ℕ) → (a ≡ shown.Retire x) ⊎ (a ≢ shown.Retire x)
retire_cases shown.Begin x = inr (λ e. cc)
retire_cases shown.End x = inr (λ e. cc)
retire_cases (shown.Get y) x = inr (λ e. cc)
retire_cases (shown.Put y) x = inr (λ e. cc)
retire_cases (shown.Latch y) x = inr (λ e. cc)
retire_cases (shown.Take y) x = inr (λ e. cc)
retire_cases (shown.Open y) x = inr (λ e. cc)
retire_cases (shown.Retire y) x = elim (cases_eq y x) [ inl e ↦ inl (ap shown.Retire e) | inr ne ↦ inr (λ e. ne (let f : shown.Retire y ≡ shown.Retire x = e in cc)) ]
retire_cases (shown.Look y) x = inr (λ e. cc)
retire_cases (shown.See y) x = inr (λ e. cc)
retire_cases (shown.Release y) x = inr (λ e. cc)
retire_cases shown.Miss x = inr (λ e. cc)

pub release_cases : (a : Act) (x : ℕ) → (a ≡ shown.Release x) ⊎ (a ≢ shown.Release x)
release_cases shown.Begin x = inr (λ e. cc)
release_cases shown.End x = inr (λ e. cc)
release_cases (shown.Get y) x = inr (λ e. cc)
release_cases (shown.Put y) x = inr (λ e. cc)
release_cases (shown.Latch y) x = inr (λ e. cc)
release_cases (shown.Take y) x = inr (λ e. cc)
release_cases (shown.Open y) x = inr (λ e. cc)
release_cases (shown.Retire y) x = inr (λ e. cc)
release_cases (shown.Look y) x = inr (λ e. cc)
release_cases (shown.See y) x = inr (λ e. cc)
release_cases (shown.Release y) x = elim (cases_eq y x) [ inl e ↦ inl (ap shown.Release e) | inr ne ↦ inr (λ e. ne (let f : shown.Release y ≡ shown.Release x = e in cc)) ]
release_cases shown.Miss x = inr (λ e. cc)

-- One event more.
module _ (es : List Event) (n x i : ℕ) (e : Event) (here : slice_get es i ≡ Some e) where
  retired_step : (old new : Option ℕ) → (e.act ≡ shown.Retire x → new ≡ Some i) → (e.act ≡ shown.Release x → new ≡ None) → (e.act ≢ shown.Retire x → e.act ≢ shown.Release x → new ≡ old) → (e.act ≡ shown.Retire x) ⊎ (e.act ≢ shown.Retire x) → (e.act ≡ shown.Release x) ⊎ (e.act ≢ shown.Release x) → ((k : ℕ) → (old ≡ Some k → IsRetired es x k i) × (IsRetired es x k i → old ≡ Some k)) → (k : ℕ) → (new ≡ Some k → IsRetired es x k (suc i)) × (IsRetired es x k (suc i) → new ≡ Some k)
  retired_step old new retires releases others (inl hit) d is k = (
    λ f. (let g : i ≡ k = (let h : Some i ≡ Some k = sym (retires hit) ∙ f in cc) in subst (λ z. IsRetired es x z (suc i)) g (retired_new es i e here x hit)),
    λ r. retires hit ∙ ap Some (sym (retired_now es i e here x k hit r)),
  )
  retired_step old new retires releases others (inr else_so) (inl hit) is k = (
    λ f. absurd (let h : None ≡ Some k = sym (releases hit) ∙ f in cc),
    λ r. absurd (not_released es i e here x k hit r),
  )
  retired_step old new retires releases others (inr else_so) (inr not) is k = (
    λ f. retired_on es i e here x k else_so not ((is k).0 (sym (others else_so not) ∙ f)),
    λ r. others else_so not ∙ (is k).1 (retired_back es i e here x k else_so r),
  )

  seen_step : (retired old new : Option ℕ) → (Stands es i n (shown.See x) → new ≡ retired) → ((¬ Stands es i n (shown.See x)) → new ≡ old) → Stands es i n (shown.See x) ⊎ (¬ Stands es i n (shown.See x)) → ((k : ℕ) → (retired ≡ Some k → IsRetired es x k i) × (IsRetired es x k i → retired ≡ Some k)) → ((k : ℕ) → (old ≡ Some k → HasSeen es n x k i) × (HasSeen es n x k i → old ≡ Some k)) → (k : ℕ) → (new ≡ Some k → HasSeen es n x k (suc i)) × (HasSeen es n x k (suc i) → new ≡ Some k)
  seen_step retired old new looks others (inl hit) was is k = (
    λ f. seen_new es i n x k hit ((was k).0 (sym (looks hit) ∙ f)),
    λ s. looks hit ∙ (was k).1 (seen_now es i n x k hit s),
  )
  seen_step retired old new looks others (inr else_so) was is k = (
    λ f. seen_on es i n x k else_so ((is k).0 (sym (others else_so) ∙ f)),
    λ s. others else_so ∙ (is k).1 (seen_back es i n x k else_so s),
  )

  pub knows_on : (retired seen retired' seen' : Option ℕ) → (e.act ≡ shown.Retire x → retired' ≡ Some i) → (e.act ≡ shown.Release x → retired' ≡ None) → (e.act ≢ shown.Retire x → e.act ≢ shown.Release x → retired' ≡ retired) → (Stands es i n (shown.See x) → seen' ≡ retired) → ((¬ Stands es i n (shown.See x)) → seen' ≡ seen) → Stands es i n (shown.See x) ⊎ (¬ Stands es i n (shown.See x)) → Knows es n x i retired seen → Knows es n x (suc i) retired' seen'
  knows_on retired seen retired' seen' retires releases others looks stays cases was = record {
    retired_is = retired_step retired retired' retires releases others (retire_cases e.act x) (release_cases e.act x) was.retired_is;
    seen_is = seen_step retired seen seen' looks stays cases was.retired_is was.seen_is;
  }

-- What the first i events tell of a process: whether it began before event k; and it has not ended.
pub record Began (es : List Event) (n k i : ℕ) (began : Bool) : Type 0 where
  pub some : IsTrue began → (b : ℕ) × (b < k) × Stands es b n shown.Begin
  pub only : (b : ℕ) → b < i → b < k → Stands es b n shown.Begin → IsTrue began
  pub runs : (j : ℕ) → j < i → ¬ Stands es j n shown.End

module _ (es : List Event) (n k i : ℕ) (e : Event) (here : slice_get es i ≡ Some e) where
  runs_on : e ≢ record { process = n; act = shown.End } → ((j : ℕ) → j < i → ¬ Stands es j n shown.End) → (j : ℕ) → j < suc i → ¬ Stands es j n shown.End
  runs_on not runs j less s = elim (cases_eq j i) [
    | inl same ↦ not (one_at es i e _ here (subst (λ z. Stands es z n shown.End) same s))
    | inr ne ↦ runs j (omega (arith, less, ne)) s
  ]

  pub begins_now : e ≢ record { process = n; act = shown.End } → i < k → e ≡ record { process = n; act = shown.Begin } → (old : Bool) → Began es n k i old → Began es n k (suc i) true
  begins_now not less is old b = record { some = λ t. (i, less, here ∙ ap Some is); only = λ p l m s. refl; runs = runs_on not b.runs }

  pub begins_not : e ≢ record { process = n; act = shown.End } → (¬ ((i < k) × (e ≡ record { process = n; act = shown.Begin }))) → (began : Bool) → Began es n k i began → Began es n k (suc i) began
  begins_not not else_so began b = record {
    some = b.some;
    only = λ p l m s. elim (cases_eq p i) [
      | inl same ↦ absurd (else_so (omega (arith, same, m), one_at es i e _ here (subst (λ z. Stands es z n shown.Begin) same s)))
      | inr ne ↦ b.only p (omega (arith, l, ne)) m s
    ];
    runs = runs_on not b.runs;
  }

pub began_none : (es : List Event) (n k : ℕ) → Began es n k 0 false
began_none es n k = record { some = λ t. absurd (false≢true t); only = λ b l m s. absurd (omega (arith, l)); runs = λ j l s. omega (arith, l) }

pub blocks_is : (es : List Event) (n k : ℕ) (began : Bool) → Began es n k (length es) began → (IsTrue began ↔ Blocks es n k (length es))
blocks_is es n k began b = (
  λ t. (let o = b.some t in record { place = o.0; before = o.1; begins = o.2; runs = b.runs }),
  λ o. b.only o.place (slice_get_within es o.place _ o.begins) o.before o.begins,
)
