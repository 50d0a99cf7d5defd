-- Pairs that rise do so at each two places.
use Rattle.std.proofs.Common.{ℕ, zero, suc, ◌≡◌, ◌+◌, ◌-◌, ◌<◌, ◌≤◌, List, [], ◌∷◌, ◌++◌, length, get_or, take, drop, reverse, sym, ap, ◌∙◌, subst, inl, inr, arith}
use Rattle.std.proofs.lemmas.Bool.{cases_order, cases_lt}
use Rattle.std.proofs.lemmas.List.{length-drop, get_or-drop, take_more, length-take-le, length-reverse, get_or-take, get_or-reverse}
use Rattle.bl_model.specs.Map.{ListsPairs}
use Rattle.bl_model.proofs.Parts.{IsPlaceOf, lists_window}
use Rattle.bl_model.proofs.Falling.{IsCountTo}
use Rattle.bl_model.specs.Rows.{map_of, key_at, HasRisingKeys}
use Rattle.bl_page.specs.Pairs.{RisesFrom}

keys_from : (least : ℕ) (pairs : List (ℕ × ℕ)) → RisesFrom least pairs → (j : ℕ) → j < length pairs → least ≤ key_at pairs j
keys_from least [] h j lt = absurd (omega arith)
keys_from least (pair ∷ pairs) h zero lt = h.0
keys_from least (pair ∷ pairs) h (suc j) lt = omega (arith, h.0, keys_from (pair.0 + 1) pairs h.1 j (omega arith))

pub rising_keys : (least : ℕ) (pairs : List (ℕ × ℕ)) → RisesFrom least pairs → HasRisingKeys pairs
rising_keys least [] h i j lt within = absurd (omega arith)
rising_keys least (pair ∷ pairs) h zero zero lt within = absurd (omega arith)
rising_keys least (pair ∷ pairs) h (suc i) zero lt within = absurd (omega arith)
rising_keys least (pair ∷ pairs) h zero (suc j) lt within = omega (arith, keys_from (pair.0 + 1) pairs h.1 j (omega arith))
rising_keys least (pair ∷ pairs) h (suc i) (suc j) lt within = rising_keys (pair.0 + 1) pairs h.1 i j (omega arith) (omega arith)

-- The first key that is not below another stands behind all that are.
pub first_from : (rows : List (ℕ × ℕ)) (from i : ℕ) → RisesFrom 0 rows → i < length rows → ((j : ℕ) → j < i → key_at rows j < from) → from ≤ key_at rows i → IsPlaceOf rows from i
first_from rows from i rises lt below here = record {
  in_range = omega arith;
  before = below;
  behind = λ j le within. elim (cases_order i j) [
    | inl same ↦ subst (λ z. from ≤ key_at rows z) same here
    | inr order ↦ elim order [ inl less ↦ omega (arith, rising_keys 0 rows rises i j less within) | inr more ↦ absurd (omega arith) ]
  ];
}

-- The rows from that place on are the pairs whose keys are not below.
pub lists_from : (rows items : List (ℕ × ℕ)) (from i : ℕ) → RisesFrom 0 rows → IsPlaceOf rows from i → items ≡ drop i rows → ListsPairs (map_of rows) (λ key. from ≤ key) items
lists_from rows items from i rises place is =
    let within = place.in_range in
    let long : length items ≡ length rows - i = ap length is ∙ length-drop i rows in
    lists_window rows items (λ key. from ≤ key) i (length rows - i) (rising_keys 0 rows rises) long (omega arith)
    (λ j d lt. ap (λ xs. get_or xs j d) is ∙ get_or-drop i rows j d)
    (λ j lt. place.behind (i + j) (omega arith) (omega arith))
    (λ p lt takes. (elim (cases_lt p i) [ inl below ↦ absurd (let b = place.before p below in omega arith) | inr over ↦ over ], omega arith))

-- The keys before the first key that is above another are up to it.
pub first_above : (rows : List (ℕ × ℕ)) (from i : ℕ) → RisesFrom 0 rows → i < length rows → ((j : ℕ) → j < i → key_at rows j ≤ from) → from < key_at rows i → IsCountTo rows from i
first_above rows from i rises lt below here = record {
  in_range = omega arith;
  before = below;
  behind = λ j le within. elim (cases_order i j) [
    | inl same ↦ subst (λ z. from < key_at rows z) same here
    | inr order ↦ elim order [ inl less ↦ omega (arith, rising_keys 0 rows rises i j less within) | inr more ↦ absurd (omega arith) ]
  ];
}

-- one row more, from the back
pub taken_back : (rows now : List (ℕ × ℕ)) (n i : ℕ) (row : ℕ × ℕ) → i < n → n ≤ length rows → row ≡ get_or rows (n - 1 - i) (0, 0) → now ≡ take i (reverse (take n rows)) → now ++ row ∷ [] ≡ take (i + 1) (reverse (take n rows))
taken_back rows now n i row lt within is grown =
    let back : List (ℕ × ℕ) = reverse (take n rows) in
    let size : length (take n rows) ≡ n = length-take-le n rows within in
    let long : length back ≡ n = length-reverse (take n rows) ∙ size in
    let place : length (take n rows) - 1 - i ≡ n - 1 - i = omega (arith, size) in
    let here : get_or back i (0, 0) ≡ get_or rows (n - 1 - i) (0, 0) = get_or-reverse (take n rows) i (0, 0) (omega (arith, size)) ∙ (get_or-take n rows (length (take n rows) - 1 - i) (0, 0) (omega (arith, size)) ∙ ap (λ (q : ℕ). get_or rows q (0, 0)) place) in
    ap (λ (z : List (ℕ × ℕ)). z ++ row ∷ []) grown ∙ (ap (λ (z : ℕ × ℕ). take i back ++ z ∷ []) (is ∙ sym here) ∙ sym (take_more back i (0, 0) (omega (arith, long, lt))))
