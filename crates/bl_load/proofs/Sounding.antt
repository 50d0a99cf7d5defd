-- All levels are built: with their anchor the pages are sound, as full as was asked, and have the rows.
use Rattle.std.proofs.Common.{◌≡◌, ◌≢◌, ℕ, suc, ◌-◌, ◌<◌, ◌≤◌, List, [], ◌∷◌, length, get_or, false, Option, Some, None, refl, ap, sym, subst, ◌∙◌, inl, inr, arith}
use Rattle.std.specs.List.{AllByRecursion}
use Rattle.std.specs.Prelude.{IfSome, IsTrue}
use Rattle.std.proofs.lemmas.Bool.{cases_lt, cases_eq, false≢true}
use Rattle.bl_page.specs.declared.page.Anchor.{Anchor as AnchorPage}
use Rattle.bl_page.specs.declared.page.Page.{Page}
use Rattle.bl_page.specs.declared.page.Page.TheVariants.{Anchor, Leaf, Inner, Dead}
use Rattle.bl_page.specs.Pages.{page_at}
use Rattle.bl_check.specs.declared.span.Span.{Span}
use Rattle.bl_check.specs.Spans.{span_of, span_at, StandsAt, leftmost_of, roots as roots_of, levels, leftmost}
use Rattle.bl_check.specs.Rules.{AreSound, LinkFits, OnChain, ChildrenFit, Reaches, is_anchor, is_dead}
use Rattle.bl_check.specs.Rules.Rule.{OneAnchor, Leftmost, Links, Chains, Children, NoneDead}
use Rattle.bl_check.specs.Rows.{RowsFrom, AreRowsOf}
use Rattle.bl_check.proofs.Reaching.{live_below}
use Rattle.bl_load.specs.Loads.{IsFull, HasOneTop}
use Rattle.bl_load.specs.Trees.{Grown, IsNode, IsForest, IsUnlinked}
use Rattle.bl_load.proofs.Forests.{none_reached}
use Rattle.bl_load.proofs.Growing.{some_and, grown_stands, grown_fits, grown_reach, grown_children, grown_rows}

live_no_anchor : (page : Option Page) (s : Span) → span_of page ≡ Some s → is_anchor page ≡ false
live_no_anchor None s e = refl
live_no_anchor (Some (Anchor a)) s e = absurd cc
live_no_anchor (Some (Leaf l)) s e = refl
live_no_anchor (Some (Inner i)) s e = refl
live_no_anchor (Some (Dead d)) s e = refl

live_not_dead : (page : Option Page) (s : Span) → span_of page ≡ Some s → is_dead page ≡ false
live_not_dead None s e = refl
live_not_dead (Some (Anchor a)) s e = refl
live_not_dead (Some (Leaf l)) s e = refl
live_not_dead (Some (Inner i)) s e = refl
live_not_dead (Some (Dead d)) s e = absurd cc

not_live : (o : Option Span) (s : Span) → o ≡ None → o ≡ Some s → ⊥
not_live o s none some = let e : None ≡ Some s = sym none ∙ some in cc

all_of : (P : Option Page → Type 0) (xs : List (Option Page)) → ((i : ℕ) → i < length xs → P (get_or xs i None)) → AllByRecursion P xs
all_of P [] h = tt
all_of P (x ∷ xs) h = (h 0 (omega arith), all_of P xs (λ i lt. h (suc i) (omega arith)))

-- The pages of an image: the anchor, those that were built, and no others.
pub record IsWhole (pages : List (Option Page)) (roots : List ℕ) (final : List (Option Page)) : Type 0 where
  pub anchor : AnchorPage
  pub lists : anchor.leftmost.items ≡ roots
  pub first : page_at final 0 ≡ Some (Anchor anchor)
  pub same : (x : ℕ) → 0 < x → x < length pages → page_at final x ≡ page_at pages x
  pub none : (x : ℕ) → 0 < x → length pages ≤ x → page_at final x ≡ None

module _ (fill level : ℕ) (pages : List (Option Page)) (roots : List ℕ) (final : List (Option Page)) (f : IsForest fill pages roots level 0) (w : IsWhole pages roots final) where
  above_zero : (x : ℕ) → x ≢ 0 → 0 < x
  above_zero x other = omega arith

  kept : Grown pages final
  kept x s at = elim (cases_eq x 0) [
    | inl zero ↦ absurd (not_live (span_at pages x) s (ap (λ y. span_at pages y) zero ∙ ap span_of f.none) at)
    | inr other ↦ w.same x (above_zero x other) (live_below pages x s at)
  ]

  -- what holds of the anchor, of each page that was built, and of a page that is not in use
  by_place : (P : Option Page → Type 0) (x : ℕ) → (x ≡ 0 → P (Some (Anchor w.anchor))) → (0 < x → IsNode fill pages roots level 0 x → P (page_at pages x)) → P None → P (page_at final x)
  by_place P x anchored built unused = elim (cases_eq x 0) [
    | inl zero ↦ subst (λ y. P (page_at final y)) (sym zero) (subst P (sym w.first) (anchored zero))
    | inr other ↦ elim (cases_lt x (length pages)) [
      | inl lt ↦ subst P (sym (w.same x (above_zero x other) lt)) (built (above_zero x other) (f.nodes x (above_zero x other) lt))
      | inr le ↦ subst P (sym (w.none x (above_zero x other) le)) unused
    ]
  ]

  roots_are : roots_of final ≡ roots
  roots_are = ap leftmost_of w.first ∙ w.lists

  levels_are : levels final ≡ level
  levels_are = ap length roots_are ∙ f.count

  leftmost_is : (l : ℕ) → leftmost final l ≡ get_or roots l 0
  leftmost_is l = ap (λ (r : List ℕ). get_or r l 0) roots_are

  on_chain : (x : ℕ) (n : IsNode fill pages roots level 0 x) → n.span.level < level → OnChain final n.span.level x
  on_chain x n lt = (omega (arith, lt, levels_are), subst (λ y. Reaches final y x) (sym (leftmost_is n.span.level)) (grown_reach pages final kept (get_or roots n.span.level 0) x (n.below lt)))

  none_here : (x : ℕ) (n : IsNode fill pages roots level 0 x) → 0 < x → n.span.level < level
  none_here x n above = elim (cases_lt n.span.level level) [
    | inl lt ↦ lt
    | inr le ↦ absurd (let same : x ≡ 0 = none_reached pages 0 x (ap span_of f.none) (n.here (omega (arith, le, n.not_above))) in omega (arith, same, above))
  ]

  pub sound : AreSound final
  sound OneAnchor x lt = (
    by_place (λ page. IsTrue (is_anchor page) → x ≡ 0) x (λ zero is. zero) (λ above n is. absurd (false≢true (sym (live_no_anchor (page_at pages x) n.span n.live) ∙ is))) (λ is. absurd (false≢true is)),
    λ zero. subst (λ y. IsTrue (is_anchor (page_at final y))) (sym zero) (ap is_anchor w.first),
  )
  sound Leftmost x lt = λ zero l below. subst (λ y. StandsAt final y l 0) (sym (leftmost_is l)) (grown_stands pages final kept (get_or roots l 0) l 0 (f.stand l (omega (arith, below, levels_are))))
  sound Links x lt = λ l on. by_place (λ page. IfSome (span_of page) (λ s. LinkFits final s)) x (λ zero. tt)
      (λ above n. subst (λ (o : Option Span). IfSome o (λ s. LinkFits final s)) (sym n.live) (grown_fits pages final kept n.span n.fits)) tt
  sound Chains x lt = by_place (λ page. IfSome (span_of page) (λ s. OnChain final s.level x)) x (λ zero. tt)
      (λ above n. subst (λ (o : Option Span). IfSome o (λ s. OnChain final s.level x)) (sym n.live) (on_chain x n (none_here x n above))) tt
  sound Children x lt = by_place (ChildrenFit final) x (λ zero. tt) (λ above n. grown_children pages final kept (page_at pages x) n.children) tt
  sound NoneDead x lt = by_place (λ page. is_dead page ≡ false) x (λ zero. refl) (λ above n. live_not_dead (page_at pages x) n.span n.live) refl

  pub full : AllByRecursion (IsFull fill) final
  full = all_of (IsFull fill) final (λ x lt. by_place (IsFull fill) x (λ zero. tt) (λ above n. n.full) tt)

  pub rows : (all : List (ℕ × ℕ)) → RowsFrom pages (get_or roots 0 0) all → AreRowsOf final all
  rows all r = subst (λ y. RowsFrom final y all) (sym (leftmost_is 0)) (grown_rows pages final kept (get_or roots 0 0) all r)

  pub one_top : IsUnlinked pages (get_or roots (level - 1) 0) → HasOneTop final
  one_top alone l is =
      let here : l ≡ level - 1 = omega (arith, is, levels_are) in
      let x = get_or roots (level - 1) 0 in
      let stands = f.stand (level - 1) (omega (arith, is, levels_are)) in
      let found = some_and (span_at pages x) (λ s. (s.level ≡ level - 1) × (s.low ≡ 0)) stands in
      let same : leftmost final l ≡ x = leftmost_is l ∙ ap (λ k. get_or roots k 0) here in
      subst (IsUnlinked final) (sym same) (subst (λ page. IfSome (span_of page) (λ s. s.right ≡ 0)) (sym (kept x found.0 found.1)) alone)
