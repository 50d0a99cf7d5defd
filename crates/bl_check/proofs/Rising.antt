-- Each low of a chain is greater than the one before, so a chain does not come round, and what it reaches can be decided.
use Rattle.std.proofs.Common.{◌≡◌, ◌≢◌, ℕ, zero, suc, ◌+◌, ◌-◌, ◌<◌, ◌≤◌, ◌⊎◌, List, [], ◌∷◌, Option, Some, None, refl, sym, subst, ap, ◌∙◌, inl, inr, arith}
use Rattle.std.proofs.Math.Logic.{∥∥₁_elim, ∥∥₁_map}
use Rattle.std.specs.List.{AllByRecursion}
use Rattle.std.proofs.Props.{props}
use Rattle.std.specs.Prelude.{IfSome, IsSomeAnd}
use Rattle.std.proofs.lemmas.Bool.{cases_eq}
use Rattle.std.specs.Coded.{×_prop, Unit-prop, le_prop}
use Rattle.bl_page.specs.declared.page.Page.{Page}
use Rattle.bl_page.specs.declared.page.Page.TheVariants.{Anchor, Leaf, Inner, Dead}
use Rattle.bl_page.specs.Pairs.{end_of}
use Rattle.bl_check.specs.declared.span.Span.{Span}
use Rattle.bl_page.specs.Pages.{page_at}
use Rattle.bl_check.specs.Spans.{span_of, span_at, StandsAt, leftmost}
use Rattle.bl_check.specs.Rules.{HasNext, LinkFits, Reaches, OnChain, ChildrenFit, AreSound, NeverRound}
use Rattle.bl_check.specs.Rules.Rule.{OneAnchor, Leftmost, Links, Chains, Children, NoneDead}
use Rattle.bl_check.specs.Rules.Reaches.{Here, Next}
use Rattle.bl_check.proofs.Reaching.{low_of, low_at, reach_cases}

-- the low of a live page is below its bound
pub span_wide : (page : Option Page) (s : Span) → span_of page ≡ Some s → s.low < end_of s.high
span_wide None s is = absurd cc
span_wide (Some (Anchor a)) s is = absurd cc
span_wide (Some (Leaf l)) s is = let same : (record { level = 0; low = l.low; high = l.high; right = l.right }) ≡ s = cc in subst (λ t. t.low < end_of t.high) same l.bounds
span_wide (Some (Inner i)) s is = let same : (record { level = i.level; low = i.low; high = i.high; right = i.right }) ≡ s = cc in subst (λ t. t.low < end_of t.high) same i.bounds
span_wide (Some (Dead d)) s is = absurd cc

below_end : (low high : ℕ) → high ≢ 0 → low < end_of high → low < high
below_end low high some lt = grind arith

low_is : (pages : List (Option Page)) (x : ℕ) (s : Span) → span_at pages x ≡ Some s → low_at pages x ≡ s.low
low_is pages x s at = ap low_of at

low_of_next : (o : Option Span) (level high : ℕ) → IsSomeAnd o (λ t. (t.level ≡ level) × (t.low ≡ high)) → low_of o ≡ high
low_of_next None level high h = absurd h
low_of_next (Some t) level high h = h.1

pub low_rises : (pages : List (Option Page)) (x : ℕ) (s : Span) → span_at pages x ≡ Some s → HasNext pages s → low_at pages x < low_at pages s.right
low_rises pages x s at next =
    let here = low_is pages x s at in let there = low_of_next (span_at pages s.right) s.level s.high next.1 in
    let lt = below_end s.low s.high next.0 (span_wide (page_at pages x) s at) in omega (arith, here, there, lt)

pub low_along : (pages : List (Option Page)) (x y : ℕ) → Reaches pages x y → low_at pages x ≤ low_at pages y
low_along pages x y Here = omega arith
low_along pages x y (Next s at next r) = let a = low_rises pages x s at next in let b = low_along pages s.right y r in omega (arith, a, b)

pub never_round : (pages : List (Option Page)) → NeverRound pages
never_round pages x s at next r = let a = low_rises pages x s at next in let b = low_along pages s.right x r in absurd (omega (arith, a, b))

-- above every low
top_low : List (Option Page) → ℕ
top_low [] = 0
top_low (page ∷ pages) = low_of (span_of page) + 1 + top_low pages

low_below : (pages : List (Option Page)) (x : ℕ) (s : Span) → span_at pages x ≡ Some s → low_at pages x < top_low pages
unfolding top_low
low_below [] x s at = absurd cc
low_below (page ∷ pages) zero s at = omega arith
low_below (page ∷ pages) (suc x) s at = let more = low_below pages x s at in omega (arith, more)

-- it can be decided whether a page has a next one

stands_or_not : (o : Option Span) (level low : ℕ) → IsSomeAnd o (λ t. (t.level ≡ level) × (t.low ≡ low)) ⊎ ¬ IsSomeAnd o (λ t. (t.level ≡ level) × (t.low ≡ low))
stands_or_not None level low = inr (λ h. h)
stands_or_not (Some t) level low = elim (cases_eq t.level level) [
  | inl same ↦ elim (cases_eq t.low low) [ inl equal ↦ inl (same, equal) | inr other ↦ inr (λ h. other h.1) ]
  | inr other ↦ inr (λ h. other h.0)
]

next_or_not : (pages : List (Option Page)) (s : Span) → HasNext pages s ⊎ ¬ HasNext pages s
next_or_not pages s = elim (cases_eq s.high 0) [
  | inl none ↦ inr (λ next. next.0 none)
  | inr some ↦ elim (stands_or_not (span_at pages s.right) s.level s.high) [ inl stands ↦ inl (some, stands) | inr off ↦ inr (λ next. off next.1) ]
]

-- and whether it reaches another

none_reached : (pages : List (Option Page)) (x y : ℕ) → y ≢ x → ((s : Span) → span_at pages x ≡ Some s → ¬ HasNext pages s) → ¬ Reaches pages x y
none_reached pages x y other none Here = other refl
none_reached pages x y other none (Next s at next r) = none s at next

abbrev Decided : List (Option Page) → ℕ → ℕ → Type 0
Decided pages x y = Reaches pages x y ⊎ ¬ Reaches pages x y

-- by its next page, if it has one
by_next : (pages : List (Option Page)) (x y : ℕ) (o : Option Span) → span_at pages x ≡ o → ((s : Span) → span_at pages x ≡ Some s → HasNext pages s → Decided pages s.right y) → Decided pages x y
by_next pages x y o at further = elim (cases_eq y x) [ inl same ↦ inl (subst (Reaches pages x) (sym same) Here) | inr other ↦ onward other o at ]
  where
    onward : y ≢ x → (o : Option Span) → span_at pages x ≡ o → Decided pages x y
    onward other None at = inr (none_reached pages x y other (λ s is. absurd (let e : Some s ≡ None = sym is ∙ at in cc)))
    onward other (Some s) at = elim (next_or_not pages s) [
      | inl next ↦ elim (further s at next) [
        | inl r ↦ inl (Next s at next r)
        | inr off ↦ inr (λ r. elim (reach_cases pages x y s at r) [ inl same ↦ other same | inr on ↦ off on.1 ])
      ]
      | inr none ↦ inr (none_reached pages x y other (λ t is next. none (let same : t ≡ s = cc in subst (HasNext pages) same next)))
    ]

reached_or_not : (n : ℕ) (pages : List (Option Page)) (x y : ℕ) → top_low pages ≤ n + low_at pages x → Decided pages x y
reached_or_not zero pages x y enough = by_next pages x y (span_at pages x) refl (λ s at next. absurd (let lt = low_below pages x s at in omega (arith, lt)))
reached_or_not (suc n) pages x y enough = by_next pages x y (span_at pages x) refl
    (λ s at next. reached_or_not n pages s.right y (let up = low_rises pages x s at next in omega (arith, up)))

pub reach_decided : (pages : List (Option Page)) (x y : ℕ) → Decided pages x y
reach_decided pages x y = reached_or_not (top_low pages) pages x y (omega arith)

-- Sound pages are known to be so where it is only known that they are: each rule has one proof at most or can be decided.

stands_prop : (o : Option Span) (level low : ℕ) → IsProp (IsSomeAnd o (λ t. (t.level ≡ level) × (t.low ≡ low)))
stands_prop None level low = hlevel props
stands_prop (Some t) level low = hlevel props

fits_prop : (pages : List (Option Page)) (o : Option Span) → IsProp (IfSome o (λ s. LinkFits pages s))
fits_prop pages None = Unit-prop
fits_prop pages (Some s) = hlevel (props, stands_prop)

pairs_prop : (pages : List (Option Page)) (level : ℕ) (pairs : List (ℕ × ℕ)) → IsProp (AllByRecursion (λ pair. StandsAt pages pair.1 level pair.0) pairs)
pairs_prop pages level [] = Unit-prop
pairs_prop pages level (pair ∷ pairs) = ×_prop (stands_prop (span_at pages pair.1) level pair.0) (pairs_prop pages level pairs)

children_prop : (pages : List (Option Page)) (page : Option Page) → IsProp (ChildrenFit pages page)
children_prop pages None = Unit-prop
children_prop pages (Some (Anchor a)) = Unit-prop
children_prop pages (Some (Leaf l)) = Unit-prop
children_prop pages (Some (Inner i)) = pairs_prop pages (i.level - 1) i.children.items
children_prop pages (Some (Dead d)) = Unit-prop

chain_settled : (pages : List (Option Page)) (x : ℕ) (o : Option Span) → ∥ IfSome o (λ s. OnChain pages s.level x) ∥₁ → IfSome o (λ s. OnChain pages s.level x)
chain_settled pages x None h = tt
chain_settled pages x (Some s) h = (∥∥₁_elim h le_prop (λ on. on.0), elim (reach_decided pages (leftmost pages s.level) x) [ inl r ↦ r | inr off ↦ absurd (∥∥₁_elim h (hlevel props) (λ on. off on.1)) ])

pub settled : (pages : List (Option Page)) → ∥ AreSound pages ∥₁ → AreSound pages
settled pages h OneAnchor x lt = ∥∥₁_elim h (hlevel props) (λ sound. sound OneAnchor x lt)
settled pages h Leftmost x lt = λ zero level below. ∥∥₁_elim h (stands_prop (span_at pages (leftmost pages level)) level 0) (λ sound. sound Leftmost x lt zero level below)
settled pages h Links x lt = λ level on. ∥∥₁_elim h (fits_prop pages (span_at pages x)) (λ sound. sound Links x lt level on)
settled pages h Chains x lt = chain_settled pages x (span_at pages x) (∥∥₁_map h (λ sound. sound Chains x lt))
settled pages h Children x lt = ∥∥₁_elim h (children_prop pages (page_at pages x)) (λ sound. sound Children x lt)
settled pages h NoneDead x lt = ∥∥₁_elim h (hlevel props) (λ sound. sound NoneDead x lt)
