-- The pages of a sound image name pages of the image.
use Rattle.std.proofs.Common.{◌≡◌, ◌≢◌, ℕ, zero, suc, ◌+◌, ◌-◌, ◌<◌, ◌≤◌, ◌^◌, List, [], ◌∷◌, length, get_or, Option, Some, None, true, false, refl, ap, sym, subst, ◌∙◌, inl, inr, arith}
use Rattle.std.specs.Prelude.{IfSome, IsSomeAnd, IsTrue, slice_index_or}
use Rattle.std.specs.List.{AllByRecursion}
use Rattle.std.proofs.lemmas.Bool.{cases_lt, cases_eq, false≢true}
use Rattle.bl_page.specs.declared.page.Page.{Page}
use Rattle.bl_page.specs.declared.page.Page.TheVariants.{Anchor, Leaf, Inner, Dead}
use Rattle.bl_page.specs.Pages.{page_at}
use Rattle.bl_page.specs.Pairs.{AreNumbers, NameNumbers}
use Rattle.bl_image.specs.Images.{IsCount, bound_of, NamesBelow, AreWithin}
use Rattle.bl_check.specs.declared.span.Span.{Span}
use Rattle.bl_check.specs.Spans.{span_of, span_at, StandsAt, leftmost_of}
use Rattle.bl_check.specs.Rules.{AreSound, OnChain, LinkFits, ChildrenFit, is_anchor, is_dead}
use Rattle.bl_check.specs.Rules.Rule.{OneAnchor, Leftmost, Links, Chains, Children, NoneDead}

all_of : {A : Type 0} (P : A → Type 0) (none : A) (xs : List A) → ((i : ℕ) → i < length xs → P (get_or xs i none)) → AllByRecursion P xs
all_of P none [] h = tt
all_of P none (x ∷ xs) h = (h 0 (omega arith), all_of P none xs (λ i lt. h (suc i) (omega arith)))

-- behind the last page stands none
past : (pages : List (Option Page)) (x : ℕ) → length pages ≤ x → page_at pages x ≡ None
past [] x le = refl
past (page ∷ pages) zero le = absurd (omega arith)
past (page ∷ pages) (suc x) le = past pages x (omega arith)

-- a page that stands somewhere is one of the image
stands_within : (pages : List (Option Page)) (x level low : ℕ) → StandsAt pages x level low → x < length pages
stands_within pages x level low h = elim (cases_lt x (length pages)) [
  | inl lt ↦ lt
  | inr le ↦ absurd (subst (λ (o : Option Page). IsSomeAnd (span_of o) (λ s. (s.level ≡ level) × (s.low ≡ low))) (past pages x le) h)
]

pairs_below : (most : ℕ) (pages : List (Option Page)) (level : ℕ) (pairs : List (ℕ × ℕ)) → length pages ≤ most → NameNumbers (2 ^ 32) pairs
    → AllByRecursion (λ pair. StandsAt pages pair.1 level pair.0) pairs → NameNumbers most pairs
pairs_below most pages level [] few names fit = tt
pairs_below most pages level (pair ∷ pairs) few names fit =
    let lt = stands_within pages pair.1 level pair.0 fit.0 in ((names.0.0, omega arith), pairs_below most pages level pairs few names.1 fit.1)

roots_below : (most : ℕ) (pages : List (Option Page)) (xs : List ℕ) → length pages ≤ most → AreNumbers (2 ^ 32) xs → ((i : ℕ) → i < length xs → StandsAt pages (slice_index_or xs i 0) i 0) → AreNumbers most xs
roots_below most pages xs few names each = from 0 xs names (λ i less. subst (λ (n : ℕ). StandsAt pages (slice_index_or xs i 0) n 0) (let e : i ≡ 0 + i = omega arith in e) (each i less))
  where
    from : (level : ℕ) (xs : List ℕ) → AreNumbers (2 ^ 32) xs → ((i : ℕ) → i < length xs → StandsAt pages (slice_index_or xs i 0) (level + i) 0) → AreNumbers most xs
    from level [] names each = tt
    from level (x ∷ xs) names each =
        let lt = stands_within pages x (level + 0) 0 (each 0 (omega arith)) in
        ((names.0.0, omega arith), from (level + 1) xs names.1 (λ i less. subst (λ (n : ℕ). StandsAt pages (slice_index_or xs i 0) n 0) (let e : level + suc i ≡ level + 1 + i = omega arith in e) (each (suc i) (omega arith))))

link_below : (most : ℕ) (pages : List (Option Page)) (s : Span) → length pages ≤ most → 0 < most → LinkFits pages s → s.right < most
link_below most pages s few some fits = elim (cases_eq s.high 0) [
  | inl none ↦ (let e = fits.0 none in omega arith)
  | inr bound ↦ (let lt = stands_within pages s.right s.level s.high (fits.1 bound).1 in omega arith)
]

-- the link of a live page
linked : (most : ℕ) (pages : List (Option Page)) (x : ℕ) (s : Span) → AreSound pages → length pages ≤ most → 0 < most → x < length pages → span_at pages x ≡ Some s → s.right < most
linked most pages x s sound few some lt is =
    let on = subst (λ (o : Option Span). IfSome o (λ s. OnChain pages s.level x)) is (sound Chains x lt) in
    link_below most pages s few some (subst (λ (o : Option Span). IfSome o (λ s. LinkFits pages s)) is (sound Links x lt s.level on))

at_page : (most : ℕ) (pages : List (Option Page)) (x : ℕ) (page : Option Page) → AreSound pages → length pages ≤ most → 0 < most → x < length pages → page_at pages x ≡ page → NamesBelow most page
at_page most pages x None sound few some lt is = tt
at_page most pages x (Some (Anchor a)) sound few some lt is =
    let first : x ≡ 0 = (sound OneAnchor x lt).0 (subst (λ o. IsTrue (is_anchor o)) (sym is) refl) in
    let here : page_at pages 0 ≡ Some (Anchor a) = ap (page_at pages) (sym first) ∙ is in
    roots_below most pages a.leftmost.items few a.pages
    (λ i less. subst (λ (xs : List ℕ). StandsAt pages (slice_index_or xs i 0) i 0) (ap leftmost_of here) (sound Leftmost 0 (omega arith) refl i (subst (λ (xs : List ℕ). i < length xs) (sym (ap leftmost_of here)) less)))
at_page most pages x (Some (Leaf l)) sound few some lt is = linked most pages x (record { level = 0; low = l.low; high = l.high; right = l.right }) sound few some lt (ap span_of is)
at_page most pages x (Some (Inner i)) sound few some lt is = (
  linked most pages x (record { level = i.level; low = i.low; high = i.high; right = i.right }) sound few some lt (ap span_of is),
  pairs_below most pages (i.level - 1) i.children.items few i.pages (subst (ChildrenFit pages) is (sound Children x lt)),
)
at_page most pages x (Some (Dead d)) sound few some lt is = absurd (false≢true (sym (sound NoneDead x lt) ∙ ap is_dead is))

pub sound_within : (pages : List (Option Page)) → IsCount (length pages) → AreSound pages → AreWithin pages
sound_within pages count sound =
    let few : length pages ≤ bound_of (length pages) = bounded (length pages) count.1 in
    let some : 0 < bound_of (length pages) = omega (arith, few, count.0) in
    all_of (NamesBelow (bound_of (length pages))) None pages (λ x lt. at_page (bound_of (length pages)) pages x (get_or pages x None) sound few some lt refl)
  where
    bounded : (n : ℕ) → n ≤ 2 ^ 28 → n ≤ bound_of n
    bounded n most = grind arith
