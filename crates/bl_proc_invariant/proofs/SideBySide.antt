-- The two children of a parent that stand side by side at a key, told by what stands before and after them.
use Rattle.std.proofs.Common.{ℕ, zero, suc, ◌≡◌, ◌+◌, ◌-◌, ◌<◌, ◌≤◌, ◌++◌, List, [], ◌∷◌, length, get_or, Some, arith, ap, sym, ◌∙◌, refl, subst, inl, inr}
use Rattle.std.proofs.lemmas.Bool.{cases_lt}
use Rattle.bl_page.specs.declared.page.Inner.{Inner}
use Rattle.bl_page.specs.Pairs.{place}
use Rattle.bl_page.proofs.Lookups.{place-le}
use Rattle.bl_rearrange.specs.declared.families.Family.{Family}
use Rattle.bl_proc_compress.specs.Compressions.{right_place, AreSiblings}
use Rattle.bl_proc_compress.proofs.Places.{right_place-some}
use Rattle.bl_claims.specs.Squeezed.{AreBeside}

at_most : (k i : ℕ) (pairs : List (ℕ × ℕ)) → i < place k pairs → (get_or pairs i (0, 0)).0 ≤ k
at_most k i [] lt = absurd (omega (arith, lt))
at_most k zero (pair ∷ pairs) lt = elim (cases_lt k pair.0) [
  | inl below ↦ absurd (let e : place k (pair ∷ pairs) ≡ 0 = grind (arith, below) in omega (arith, lt, e))
  | inr above ↦ above
]
at_most k (suc i) (pair ∷ pairs) lt = elim (cases_lt k pair.0) [
  | inl below ↦ absurd (let e : place k (pair ∷ pairs) ≡ 0 = grind (arith, below) in omega (arith, lt, e))
  | inr above ↦ at_most k i pairs (let e : place k (pair ∷ pairs) ≡ suc (place k pairs) = grind (arith, above) in omega (arith, lt, e))
]

above : (k : ℕ) (pairs : List (ℕ × ℕ)) → place k pairs < length pairs → k < (get_or pairs (place k pairs) (0, 0)).0
above k [] lt = absurd (omega (arith, lt))
above k (pair ∷ pairs) lt = elim (cases_lt k pair.0) [
  | inl below ↦
      let e : place k (pair ∷ pairs) ≡ 0 = grind (arith, below) in
      subst (λ n. k < (get_or (pair ∷ pairs) n (0, 0)).0) (sym e) below
  | inr some ↦
      let e : place k (pair ∷ pairs) ≡ suc (place k pairs) = grind (arith, some) in
      subst (λ n. k < (get_or (pair ∷ pairs) n (0, 0)).0) (sym e) (above k pairs (omega (arith, lt, e)))
]

-- two pairs of a list, and what stands before and after them
record CutTwo (pairs : List (ℕ × ℕ)) (n : ℕ) : Type 0 where
  pub before : List (ℕ × ℕ)
  pub after : List (ℕ × ℕ)
  pub split : pairs ≡ before ++ get_or pairs n (0, 0) ∷ get_or pairs (suc n) (0, 0) ∷ after
  pub count : length pairs ≡ suc (suc (n + length after))

cut_two : (pairs : List (ℕ × ℕ)) (n : ℕ) → suc n < length pairs → CutTwo pairs n
cut_two [] n lt = absurd (omega (arith, lt))
cut_two (pair ∷ []) n lt = absurd (omega (arith, lt))
cut_two (pair ∷ other ∷ pairs) zero lt = record { before = []; after = pairs; split = refl; count = omega arith }
cut_two (pair ∷ other ∷ pairs) (suc n) lt =
    let r = cut_two (other ∷ pairs) n (omega (arith, lt)) in
    record { before = pair ∷ r.before; after = r.after; split = ap (λ z. pair ∷ z) r.split; count = (let c = r.count in omega (arith, c)) }

-- the two by other names
named : (pairs before after : List (ℕ × ℕ)) (a b : ℕ × ℕ) (left : ℕ) (right : ℕ × ℕ) → pairs ≡ before ++ a ∷ b ∷ after → a.1 ≡ left → b ≡ right → pairs ≡ before ++ (a.0, left) ∷ right ∷ after
named pairs before after a b left right split first second = split ∙ (λ i. before ++ (a.0, first i) ∷ second i ∷ after)

none_after : (xs : List (ℕ × ℕ)) → length xs ≡ 0 → xs ≡ []
none_after [] e = refl
none_after (x ∷ xs) e = absurd (omega (arith, e))

pub beside : (x key : ℕ) (parent : Inner) (f : Family) → AreSiblings x key parent (Some f) → parent.low ≤ key → AreBeside key parent (Some f)
beside x key parent f (two, is) le =
    let pairs = parent.children.items in
    let i = right_place key pairs in
    let most = place-le key pairs in
    let some : 0 < i = right_place-some parent.low key pairs parent.first le two in
    let lt : i < length pairs = elim (cases_lt (place key pairs) (length pairs)) [ inl lt ↦ grind (arith, lt) | inr ge ↦ grind (arith, most, ge, two) ] in
    let before : i - 1 < place key pairs = elim (cases_lt (place key pairs) (length pairs)) [ inl lt ↦ grind (arith, lt, some) | inr ge ↦ grind (arith, most, ge, two, some) ] in
    let next : suc (i - 1) ≡ i = omega (arith, some) in
    let r = cut_two pairs (i - 1) (omega (arith, some, lt)) in
    let low = (get_or pairs (i - 1) (0, 0)).0 in
    let right : get_or pairs (suc (i - 1)) (0, 0) ≡ (f.key, f.at.right) = ap (λ n. get_or pairs n (0, 0)) next ∙ is.right in (
      r.before,
      r.after,
      low,
      named pairs r.before r.after (get_or pairs (i - 1) (0, 0)) (get_or pairs (suc (i - 1)) (0, 0)) f.at.left (f.key, f.at.right) r.split is.left right,
      at_most key (i - 1) pairs before,
      elim (cases_lt (place key pairs) (length pairs)) [
        | inl lt ↦
            let e : i ≡ place key pairs = grind (arith, lt) in
            inl (subst (λ (z : ℕ × ℕ). key < z.0) (ap (λ n. get_or pairs n (0, 0)) (sym e) ∙ is.right) (above key pairs lt))
        | inr ge ↦
            let e : i ≡ place key pairs - 1 = grind (arith, ge) in
            let count = r.count in
            inr (none_after r.after (omega (arith, e, most, ge, count, some)))
      ],
    )
