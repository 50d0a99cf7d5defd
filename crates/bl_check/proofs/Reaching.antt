-- Pages on chains, and their marks.
use Rattle.std.proofs.Common.{◌≡◌, ℕ, ◌+◌, ◌<◌, ◌⊎◌, List, length, get_or, set, Bool, true, false, Option, Some, None, refl, ap, sym, subst, ◌∙◌, inl, inr, arith, get_or-set_same, get_or-set_other}
use Rattle.std.specs.Prelude.{IsSome, IfSome, IsSomeAnd, is_some, min}
use Rattle.std.proofs.lemmas.List.{get_or_past, get_or_default}
use Rattle.std.proofs.lemmas.Bool.{cases_lt, cases_eq}
use Rattle.bl_page.specs.declared.page.Page.{Page}
use Rattle.bl_check.specs.declared.span.Span.{Span}
use Rattle.bl_check.specs.Spans.{span_of, span_at, StandsAt, levels, leftmost}
use Rattle.bl_check.specs.Rules.{HasNext, LinkFits, Reaches, OnChain, Rule, KeepsRule, AllKeep}
use Rattle.bl_check.specs.Rules.Reaches.{Here, Next}
use Rattle.bl_check.specs.Walks.{FitsAt, IsMarked, MetBelow, Stops, LeastWrong, MarksChains, IsLesser}

abbrev pub low_of : Option Span → ℕ
low_of None = 0
low_of (Some s) = s.low

abbrev pub low_at : List (Option Page) → ℕ → ℕ
low_at pages x = low_of (span_at pages x)

-- a live page has a number below that of pages

no_span : (s : Span) (o : Option Span) → o ≡ None → o ≡ Some s → ⊥
no_span s o e h = cc

pub live_below : (pages : List (Option Page)) (x : ℕ) (s : Span) → span_at pages x ≡ Some s → x < length pages
live_below pages x s h = elim (cases_lt x (length pages)) [
  | inl lt ↦ lt
  | inr le ↦ absurd (no_span s (span_at pages x) (ap span_of (get_or_past pages x None le)) h)
]

pub reach_on : {pages : List (Option Page)} {x y z : ℕ} → Reaches pages x y → Reaches pages y z → Reaches pages x z
reach_on Here k = k
reach_on (Next s at next r) k = Next s at next (reach_on r k)

pub reach_next : (pages : List (Option Page)) (first x y : ℕ) (s : Span) → Reaches pages first x → span_at pages x ≡ Some s → HasNext pages s → y ≡ s.right → Reaches pages first y
reach_next pages first x y s r at next is = reach_on r (Next s at next (subst (λ z. Reaches pages s.right z) (sym is) Here))

-- from a live page only that page is reached, or what its link leads to
pub reach_cases : (pages : List (Option Page)) (x y : ℕ) (s : Span) → span_at pages x ≡ Some s → Reaches pages x y → (y ≡ x) ⊎ (HasNext pages s × Reaches pages s.right y)
reach_cases pages x y s at Here = inl refl
reach_cases pages x y s at (Next t at' next r) = let same : t ≡ s = cc in inr (subst (λ u. HasNext pages u × Reaches pages u.right y) same (next, r))

pub next_fits : (pages : List (Option Page)) (s : Span) → HasNext pages s → LinkFits pages s
next_fits pages s next = (λ none. absurd (next.0 none), λ some. next)

-- marks

pub mark_here : (marks : List Bool) (x : ℕ) → x < length marks → IsMarked (set marks x true) x
mark_here marks x lt = rw get_or-set_same refl

mark_below : (marks : List Bool) (y : ℕ) → IsMarked marks y → y < length marks
mark_below marks y h = elim (cases_lt y (length marks)) [
  | inl lt ↦ lt
  | inr le ↦ absurd (let e = get_or_past marks y false le in cc)
]

pub mark_more : (marks : List Bool) (x y : ℕ) → IsMarked marks y → IsMarked (set marks x true) y
mark_more marks x y h = elim (cases_eq y x) [
  | inl same ↦ subst (λ z. IsMarked (set marks x true) z) (sym same) (mark_here marks x (subst (λ z. z < length marks) same (mark_below marks y h)))
  | inr other ↦ rw get_or-set_other h
]

pub mark_only : (marks : List Bool) (x y : ℕ) → IsMarked (set marks x true) y → (y ≡ x) ⊎ IsMarked marks y
mark_only marks x y h = elim (cases_eq y x) [
  | inl same ↦ inl same
  | inr other ↦ inr (rw get_or-set_other at h)
]

-- one step of a walk

abbrev pub Rest : List (Option Page) → List Bool → ℕ → ℕ → Type 0
Rest pages marks first x = (y : ℕ) → Reaches pages first y → (IsMarked marks y × FitsAt pages y) ⊎ Reaches pages x y

pub fits_here : (pages : List (Option Page)) (x : ℕ) (s : Span) → span_at pages x ≡ Some s → LinkFits pages s → FitsAt pages x
fits_here pages x s at fits = subst (λ o. IfSome o (λ s. LinkFits pages s)) (sym at) fits

pub wrong_here : (pages : List (Option Page)) (x : ℕ) (s : Span) → span_at pages x ≡ Some s → ¬ LinkFits pages s → ¬ FitsAt pages x
wrong_here pages x s at wrong fits = wrong (subst (λ o. IfSome o (λ s. LinkFits pages s)) at fits)

pub rest_next : (pages : List (Option Page)) (marks : List Bool) (first x next : ℕ) (s : Span) → span_at pages x ≡ Some s → x < length marks → (next ≡ s.right) × HasNext pages s
    → Rest pages marks first x → Rest pages (set marks x true) first next
rest_next pages marks first x next s at lt goes rest y r = elim (rest y r) [
  | inl met ↦ inl (mark_more marks x y met.0, met.1)
  | inr on ↦ elim (reach_cases pages x y s at on) [
    | inl same ↦ inl (subst (λ z. IsMarked (set marks x true) z × FitsAt pages z) (sym same) (mark_here marks x lt, fits_here pages x s at (next_fits pages s goes.1)))
    | inr further ↦ inr (subst (λ z. Reaches pages z y) (sym goes.0) further.1)
  ]
]

-- where the walk ends, every page that it meets is marked
pub met_end : (pages : List (Option Page)) (marks : List Bool) (first x : ℕ) (s : Span) → span_at pages x ≡ Some s → x < length marks → ¬ HasNext pages s
    → Rest pages marks first x → (y : ℕ) → Reaches pages first y → IsMarked (set marks x true) y
met_end pages marks first x s at lt none rest y r = elim (rest y r) [
  | inl met ↦ mark_more marks x y met.0
  | inr on ↦ elim (reach_cases pages x y s at on) [
    | inl same ↦ subst (λ z. IsMarked (set marks x true) z) (sym same) (mark_here marks x lt)
    | inr further ↦ absurd (none further.0)
  ]
]

-- and the link of each fits but that of the last
pub fits_end : (pages : List (Option Page)) (marks : List Bool) (first x : ℕ) (s : Span) → span_at pages x ≡ Some s → ¬ HasNext pages s
    → Rest pages marks first x → (y : ℕ) → Reaches pages first y → (y ≡ x) ⊎ FitsAt pages y
fits_end pages marks first x s at none rest y r = elim (rest y r) [
  | inl met ↦ inr met.1
  | inr on ↦ elim (reach_cases pages x y s at on) [
    | inl same ↦ inl same
    | inr further ↦ absurd (none further.0)
  ]
]

pub stops_right : (pages : List (Option Page)) (marks : List Bool) (first x : ℕ) (s : Span) → span_at pages x ≡ Some s → (s.high ≡ 0) × (s.right ≡ 0)
    → Rest pages marks first x → Stops None pages first
stops_right pages marks first x s at end rest y r = elim (fits_end pages marks first x s at (λ next. next.0 end.0) rest y r) [
  | inl same ↦ subst (FitsAt pages) (sym same) (fits_here pages x s at (λ none. end.1, λ some. absurd (some end.0)))
  | inr fits ↦ fits
]

pub stops_wrong : (pages : List (Option Page)) (marks : List Bool) (first x : ℕ) (s : Span) → span_at pages x ≡ Some s → ¬ LinkFits pages s → Reaches pages first x
    → Rest pages marks first x → Stops (Some x) pages first
stops_wrong pages marks first x s at wrong reached rest = (
  reached,
  wrong_here pages x s at wrong,
  λ y r other. elim (fits_end pages marks first x s at (λ next. wrong (next_fits pages s next)) rest y r) [
    | inl same ↦ absurd (other same)
    | inr fits ↦ fits
  ],
)

pub only_met : (pages : List (Option Page)) (before marks : List Bool) (first x : ℕ) → Reaches pages first x → ((y : ℕ) → IsMarked marks y → IsMarked before y ⊎ Reaches pages first y)
    → (y : ℕ) → IsMarked (set marks x true) y → IsMarked before y ⊎ Reaches pages first y
only_met pages before marks first x reached only y h = elim (mark_only marks x y h) [
  | inl same ↦ inr (subst (Reaches pages first) (sym same) reached)
  | inr marked ↦ only y marked
]

-- the chains of one level more

some_live : (o : Option Span) (P : Span → Type 0) → IsSomeAnd o P → IsSome o
some_live None P h = absurd h
some_live (Some s) P h = refl

pub stands_live : (pages : List (Option Page)) (x level low : ℕ) → StandsAt pages x level low → IsSome (span_at pages x)
stands_live pages x level low h = some_live (span_at pages x) (λ s. (s.level ≡ level) × (s.low ≡ low)) h

met_more : (pages : List (Option Page)) (levels y : ℕ) → MetBelow pages levels y → MetBelow pages (levels + 1) y
met_more pages levels y (level, lt, r) = (level, omega arith, r)

met_here : (pages : List (Option Page)) (levels first y : ℕ) → first ≡ leftmost pages levels → Reaches pages first y → MetBelow pages (levels + 1) y
met_here pages levels first y is r = (levels, omega arith, subst (λ z. Reaches pages z y) is r)

met_cases : (pages : List (Option Page)) (levels first y : ℕ) → first ≡ leftmost pages levels → MetBelow pages (levels + 1) y → MetBelow pages levels y ⊎ Reaches pages first y
met_cases pages levels first y is (level, lt, r) = elim (cases_eq level levels) [
  | inl same ↦ inr (subst (λ z. Reaches pages z y) (ap (leftmost pages) same ∙ sym is) r)
  | inr other ↦ inl (level, omega arith, r)
]

pub marks_step : (pages : List (Option Page)) (before marks : List Bool) (levels first : ℕ) → first ≡ leftmost pages levels → MarksChains before pages levels
    → ((y : ℕ) → IsMarked before y → IsMarked marks y) → ((y : ℕ) → Reaches pages first y → IsMarked marks y) → ((y : ℕ) → IsMarked marks y → IsMarked before y ⊎ Reaches pages first y)
    → MarksChains marks pages (levels + 1)
marks_step pages before marks levels first is h kept met only = record {
  only = λ y marked. elim (only y marked) [ inl b ↦ met_more pages levels y (h.only y b) | inr r ↦ met_here pages levels first y is r ];
  all = λ y on. elim (met_cases pages levels first y is on) [ inl b ↦ kept y (h.all y b) | inr r ↦ met y r ];
}

pub least_step : (pages : List (Option Page)) (levels first : ℕ) (wrong found least : Option ℕ) → first ≡ leftmost pages levels → LeastWrong wrong pages levels → Stops found pages first
    → IsLesser wrong found least → LeastWrong least pages (levels + 1)
least_step pages levels first None None least is h k lesser = subst (λ o. LeastWrong o pages (levels + 1)) (sym lesser)
    (λ y met. elim (met_cases pages levels first y is met) [ inl b ↦ h y b | inr r ↦ k y r ])
least_step pages levels first None (Some b) least is h k lesser = subst (λ o. LeastWrong o pages (levels + 1)) (sym lesser)
    (met_here pages levels first b is k.0, k.1, λ y lt met. elim (met_cases pages levels first y is met) [ inl on ↦ h y on | inr r ↦ k.2 y r (omega arith) ])
least_step pages levels first (Some a) None least is h k lesser = subst (λ o. LeastWrong o pages (levels + 1)) (sym lesser)
    (met_more pages levels a h.0, h.1, λ y lt met. elim (met_cases pages levels first y is met) [ inl on ↦ h.2 y lt on | inr r ↦ k y r ])
least_step pages levels first (Some a) (Some b) least is h k lesser = subst (λ o. LeastWrong o pages (levels + 1)) (sym lesser) (elim (cases_lt b a) [
  | inl lt ↦ subst (λ o. LeastWrong (Some o) pages (levels + 1)) (let e : b ≡ min a b = omega arith in e)
      (met_here pages levels first b is k.0, k.1, λ y below met. elim (met_cases pages levels first y is met) [ inl on ↦ h.2 y (omega arith) on | inr r ↦ k.2 y r (omega arith) ])
  | inr le ↦ subst (λ o. LeastWrong (Some o) pages (levels + 1)) (let e : a ≡ min a b = omega arith in e)
      (met_more pages levels a h.0, h.1, λ y below met. elim (met_cases pages levels first y is met) [ inl on ↦ h.2 y below on | inr r ↦ k.2 y r (omega arith) ])
])

-- all pages of a chain are of its level

level_along : (pages : List (Option Page)) (x y level : ℕ) → ((t : Span) → span_at pages x ≡ Some t → t.level ≡ level) → Reaches pages x y
    → (s : Span) → span_at pages y ≡ Some s → s.level ≡ level
level_along pages x y level first Here s at = first s at
level_along pages x y level first (Next t at_x next r) s at =
    level_along pages t.right y level (λ u at_u. (subst (λ o. IsSomeAnd o (λ v. (v.level ≡ t.level) × (v.low ≡ t.high))) at_u next.1).0 ∙ first t at_x) r s at

pub chain_level : (pages : List (Option Page)) (level y : ℕ) → StandsAt pages (leftmost pages level) level 0 → Reaches pages (leftmost pages level) y
    → (s : Span) → span_at pages y ≡ Some s → s.level ≡ level
chain_level pages level y stands r = level_along pages (leftmost pages level) y level (λ t at. (subst (λ o. IsSomeAnd o (λ v. (v.level ≡ level) × (v.low ≡ 0))) at stands).0) r

pub on_its_chain : (pages : List (Option Page)) (y : ℕ) → AllKeep Rule.Leftmost pages → 0 < length pages → MetBelow pages (levels pages) y → KeepsRule Rule.Chains pages y
on_its_chain pages y leftmost_fit some (level, lt, r) = at_span (span_at pages y) refl
  where
    at_span : (o : Option Span) → span_at pages y ≡ o → IfSome o (λ s. OnChain pages s.level y)
    at_span None at = tt
    at_span (Some s) at = subst (λ l. OnChain pages l y) (sym (chain_level pages level y (leftmost_fit 0 some refl level lt) r s at)) (lt, r)

-- what the marks and the least wrong link say of the rules

-- a page that is not live keeps the rule of chains

pub span_here : (pages : List (Option Page)) (x : ℕ) (page : Option Page) (o : Option Span) → x < length pages → page ≡ get_or pages x page → o ≡ span_of page → o ≡ span_at pages x
span_here pages x page o lt is h = h ∙ ap span_of (is ∙ get_or_default pages x page None lt)

pub none_kept : (pages : List (Option Page)) (x : ℕ) (o : Option Span) → o ≡ span_at pages x → is_some o ≡ false → KeepsRule Rule.Chains pages x
none_kept pages x None is none = subst (λ o. IfSome o (λ s. OnChain pages s.level x)) is tt
none_kept pages x (Some s) is none = absurd cc
