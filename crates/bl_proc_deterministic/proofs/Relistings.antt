-- A parent that lists a child by another key: it does so or not, and in one way.
use Rattle.std.proofs.Common.{ℕ, ◌≡◌, ◌<◌, List, [], ◌∷◌, Option, Some, None, refl, sym, ap, ◌∙◌, subst, inl, inr, arith}
use Rattle.std.specs.Prelude.{◌⊎◌, IsSome}
use Rattle.std.proofs.lemmas.Bool.{cases_lt, cases_eq}
use Rattle.bl_model.specs.Rows.{map_of}
use Rattle.bl_page.specs.declared.page.Page.{Page}
use Rattle.bl_page.specs.declared.page.Page.TheVariants.{Anchor, Leaf, Inner as InnerPage, Dead}
use Rattle.bl_page.specs.declared.page.Inner.{Inner}
use Rattle.bl_page.specs.Pages.{Covers}
use Rattle.bl_page.specs.Pairs.{AllWithin, IsChild, IsWithin, end_of}
use Rattle.bl_rearrange.specs.declared.fitted.Fitted.TheVariants.{Fits}
use Rattle.bl_rearrange.specs.Rearranged.{pairs_of, low_of, high_of, right_of, KeepsFrame, MayHold, IsFitted, IsWithout}
use Rattle.bl_proc_compress.specs.Compressions.{Relists}
use Rattle.bl_proc_deterministic.proofs.Pages.{within, now_bounds, fits_one, fits_some, without_one, without_some}

within_or : (low high key : ℕ) → IsWithin low high key ⊎ (¬ IsWithin low high key)
within_or low high key = elim (cases_lt key low) [
  | inl below ↦ inr (λ w. (let from = w.0 in omega arith))
  | inr from ↦ elim (cases_lt key (end_of high)) [
    | inl before ↦ inl (from, before)
    | inr past ↦ inr (λ w. (let before = w.1 in omega arith))
  ]
]

listed_within : (low high key value : ℕ) (pairs : List (ℕ × ℕ)) → AllWithin low high pairs → map_of pairs key ≡ Some value → IsWithin low high key
listed_within low high key value [] w e = absurd (let z : None ≡ Some value = e in cc)
listed_within low high key value (x ∷ pairs) w e = elim (cases_eq x.0 key) [
  | inl same ↦ subst (IsWithin low high) same w.0
  | inr other ↦ (let rest : map_of pairs key ≡ Some value = (let skip : map_of (x ∷ pairs) key ≡ map_of pairs key = grind arith in sym skip ∙ e) in listed_within low high key value pairs w.1 rest)
]

-- a page with the frame of a parent covers the same keys, and may hold children
kept_covers : (parent : Inner) (page : Page) (key : ℕ) → KeepsFrame (InnerPage parent) page → IsWithin parent.low parent.high key → Covers page key
kept_covers parent (InnerPage i) key k w = subst (λ (z : ℕ × ℕ). IsWithin z.0 z.1 key) (λ j. (sym k.1 j, sym k.2 j)) w
kept_covers parent old key k w = absurd k

child_holds : (page : Page) (child : ℕ) → IsChild child → MayHold page child
child_holds (InnerPage i) child is = is
child_holds (Anchor a) child is = tt
child_holds (Leaf l) child is = tt
child_holds (Dead d) child is = tt

some_is : (o : Option ℕ) (value : ℕ) → o ≡ Some value → IsSome o
some_is (Some v) value e = refl
some_is None value e = absurd (let z : None ≡ Some value = e in cc)

module _ (parent : Inner) (old new child : ℕ) where
  pub relist_one : (p q : Page) → Relists parent old new child (Some p) → Relists parent old new child (Some q) → p ≡ q
  relist_one p q s t =
      let middle = without_one (InnerPage parent) old t.0 s.0 t.1 s.1 in
      fits_one s.0 new child 0 p q s.2 (subst (λ (z : Page). IsFitted z new child 0 (Fits q)) middle t.2)

  relist_within : (p : Page) → Relists parent old new child (Some p) → IsWithin parent.low parent.high new
  relist_within p s =
      let listed : map_of (pairs_of p) new ≡ Some child = s.2.2 new ∙ grind arith in
      let first = now_bounds parent.low parent.high parent.right (InnerPage parent) s.0 s.1.frame in
      let second = now_bounds (low_of s.0) (high_of s.0) (right_of s.0) s.0 p s.2.1 in
      let is = listed_within (low_of p) (high_of p) new child (pairs_of p) (within p) listed in
      subst (λ (z : ℕ × ℕ). IsWithin z.0 z.1 new) (λ i. ((second.0 ∙ first.0) i, (second.1 ∙ first.1) i)) is

  pub relist_apart : (p : Page) → Relists parent old new child (Some p) → Relists parent old new child None → ⊥
  relist_apart p s t = elim t [
    | inl out ↦ out (relist_within p s)
    | inr held ↦ (let middle = without_one (InnerPage parent) old s.0 held.0 s.1 held.1 in held.2 (ap (λ (z : Page). map_of (pairs_of z) new) (sym middle) ∙ s.3))
  ]

  relist_by : (middle : Page) → IsWithout (InnerPage parent) old middle → IsWithin parent.low parent.high new → IsChild child → map_of parent.children.items old ≡ Some child → (there : Option ℕ) → map_of (pairs_of middle) new ≡ there → (r : Option Page) × Relists parent old new child r
  relist_by middle w in_it is lists (Some value) e = (None, inr (middle, w, λ none. (let z : Some value ≡ None = sym e ∙ none in cc)))
  relist_by middle w in_it is lists None e =
      let count = w.count (some_is (map_of parent.children.items old) child lists) in
      let few = parent.few in
      let p = fits_some middle new child 0 (kept_covers parent middle new w.frame in_it) e (child_holds middle child is) (omega arith) in
      (Some p.0, (middle, w, p.1, e))

  pub relist_some : IsWithin parent.low parent.high old → parent.low < old → map_of parent.children.items old ≡ Some child → IsChild child → (r : Option Page) × Relists parent old new child r
  relist_some covers above lists is = elim (within_or parent.low parent.high new) [
    | inr out ↦ (None, inl out)
    | inl in_it ↦ (
        let m = without_some (InnerPage parent) old covers (λ e. omega arith) in
        relist_by m.0 m.1 in_it is lists (map_of (pairs_of m.0) new) refl)
  ]
