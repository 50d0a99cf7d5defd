-- A part of a list of rows with rising keys: the rows from one place up to another.
use Rattle.std.proofs.Common.{◌≡◌, ℕ, ◌+◌, ◌-◌, ◌<◌, ◌≤◌, List, length, get_or, Some, sym, ap, subst, ◌∙◌, inl, inr, arith}
use Rattle.std.proofs.lemmas.List.{get_or_default}
use Rattle.std.proofs.lemmas.Bool.{cases_order}
use Rattle.bl_model.specs.Map.{ListsPairs}
use Rattle.bl_model.specs.Rows.{map_of, key_at, HasRisingKeys, IsAt, IsGapFor}
use Rattle.bl_model.proofs.Lookups.{row_of-pair}
use Rattle.bl_model.proofs.Places.{map_of-at}

-- the keys below it stand before place i, and no others
pub record IsPlaceOf (rows : List (ℕ × ℕ)) (from i : ℕ) : Type 0 where
  pub in_range : i ≤ length rows
  pub before : (j : ℕ) → j < i → key_at rows j < from
  pub behind : (j : ℕ) → i ≤ j → j < length rows → from ≤ key_at rows j

pub place_at : (rows : List (ℕ × ℕ)) (from i : ℕ) → HasRisingKeys rows → IsAt rows from i → IsPlaceOf rows from i
place_at rows from i rising at = record {
  in_range = omega (arith, at.in_range);
  before = λ j lt. omega (arith, rising j i lt at.in_range, at.has_key);
  behind = λ j le lt. elim (cases_order i j) [
    | inl same ↦ let here : key_at rows i ≡ key_at rows j = ap (key_at rows) same in omega (arith, here, at.has_key)
    | inr order ↦ elim order [ inl less ↦ omega (arith, rising i j less lt, at.has_key) | inr more ↦ absurd (omega arith) ]
  ];
}

pub place_gap : (rows : List (ℕ × ℕ)) (from i : ℕ) → IsGapFor rows from i → IsPlaceOf rows from i
place_gap rows from i gap = record {
  in_range = gap.in_range;
  before = gap.smaller_before;
  behind = λ j le lt. omega (arith, gap.greater_after j le lt);
}

-- the items are the n rows from place i on, and those are the ones whose keys are taken
pub lists_window : (rows items : List (ℕ × ℕ)) (Takes : ℕ → Type 0) (i n : ℕ) → HasRisingKeys rows → length items ≡ n → i + n ≤ length rows
    → ((j : ℕ) (d : ℕ × ℕ) → j < n → get_or items j d ≡ get_or rows (i + j) d) → ((j : ℕ) → j < n → Takes (key_at rows (i + j)))
    → ((p : ℕ) → p < length rows → Takes (key_at rows p) → (i ≤ p) × (p < i + n)) → ListsPairs (map_of rows) Takes items
lists_window rows items Takes i n rising long within is taken only = record {
  rising = λ a b lt in_range. let x = ap (λ (r : ℕ × ℕ). r.0) (is a (0, 0) (omega (arith, long))) in let y = ap (λ (r : ℕ × ℕ). r.0) (is b (0, 0) (omega (arith, long))) in
      omega (arith, x, y, rising (i + a) (i + b) (omega arith) (omega (arith, long)));
  pairs = λ key value. (
    λ (j, lt, e). let few : j < n = omega (arith, long) in
        let row : get_or rows (i + j) (0, 0) ≡ (key, value) = get_or_default rows (i + j) (0, 0) (key, value) (omega arith) ∙ sym (is j (key, value) few) ∙ e in
        let has : key_at rows (i + j) ≡ key = ap (λ (r : ℕ × ℕ). r.0) row in
        (map_of-at rows rising key (i + j) (record { in_range = omega arith; has_key = has }) ∙ ap (λ (r : ℕ × ℕ). Some r.1) row, subst Takes has (taken j few)),
    λ (e, takes). let (p, lt, row) = row_of-pair rows key value e in
        let has : key_at rows p ≡ key = ap (λ (r : ℕ × ℕ). r.0) row in
        let (low, high) = only p lt (subst Takes (sym has) takes) in
        let place : i + (p - i) ≡ p = omega arith in
        (p - i, omega (arith, long), is (p - i) (key, value) (omega arith) ∙ ap (λ q. get_or rows q (key, value)) place ∙ get_or_default rows p (key, value) (0, 0) lt ∙ row),
  );
}
