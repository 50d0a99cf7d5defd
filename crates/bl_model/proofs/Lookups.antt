-- What a list of rows has at a key, and what an edit of the list does to it.
use Rattle.std.proofs.Common.{◌≡◌, ◌≢◌, ℕ, zero, suc, ◌<◌, eqb, List, [], ◌∷◌, length, get_or, if◌then◌else◌, Some, None, refl, inl, inr, arith}
use Rattle.std.specs.Prelude.{set}
use Rattle.std.specs.List.{insert, remove}
use Rattle.std.proofs.lemmas.Bool.{cases_eq}
use Rattle.std.proofs.lemmas.Bool.Decides.{nat_tests}
use Rattle.bl_model.specs.Rows.{map_of, key_at, IsAt, HasRisingKeys}

-- no row before place i has the key
abbrev pub NoKeyBefore : List (ℕ × ℕ) → ℕ → ℕ → Type 0
NoKeyBefore rows k i = (j : ℕ) → j < i → key_at rows j ≢ k

no_key_before_tail : (x : ℕ × ℕ) (rows : List (ℕ × ℕ)) (k i : ℕ) → NoKeyBefore (x ∷ rows) k (suc i) → NoKeyBefore rows k i
no_key_before_tail x rows k i no_key j lt = no_key (suc j) (omega arith)

is_at_tail : (x : ℕ × ℕ) (rows : List (ℕ × ℕ)) (k i : ℕ) → IsAt (x ∷ rows) k (suc i) → IsAt rows k i
is_at_tail x rows k i is_at = record { in_range = omega (arith, is_at.in_range); has_key = is_at.has_key }

rising_tail : (x : ℕ × ℕ) (rows : List (ℕ × ℕ)) → HasRisingKeys (x ∷ rows) → HasRisingKeys rows
rising_tail x rows rising i j lt in_range = rising (suc i) (suc j) (omega arith) (omega arith)

-- a key that no row has is not found
pub map_of-absent : (rows : List (ℕ × ℕ)) (k : ℕ) → NoKeyBefore rows k (length rows) → map_of rows k ≡ None
map_of-absent [] k no_key = refl
map_of-absent (x ∷ rows) k no_key = grind (arith, nat_tests, no_key 0 (omega arith), map_of-absent rows k (no_key_before_tail x rows k _ no_key))

-- the first row that has the key gives the value
pub map_of-present : (rows : List (ℕ × ℕ)) (k i : ℕ) → IsAt rows k i → NoKeyBefore rows k i → map_of rows k ≡ Some (get_or rows i (0, 0)).1
map_of-present [] k i is_at no_key = absurd (omega (arith, is_at.in_range))
map_of-present (x ∷ rows) k zero is_at no_key = grind (arith, nat_tests, is_at.has_key)
map_of-present (x ∷ rows) k (suc i) is_at no_key = grind (arith, nat_tests, no_key 0 (omega arith), map_of-present rows k i (is_at_tail x rows k i is_at) (no_key_before_tail x rows k i no_key))

-- a new row before any row that has its key sets the value there, and nothing else
pub map_of-insert : (rows : List (ℕ × ℕ)) (k v i : ℕ) → NoKeyBefore rows k i → (q : ℕ) → map_of (insert rows i (k, v)) q ≡ (if eqb q k then Some v else map_of rows q)
map_of-insert rows k v zero no_key q = grind (arith, nat_tests)
map_of-insert [] k v (suc i) no_key q = grind (arith, nat_tests)
map_of-insert (x ∷ rows) k v (suc i) no_key q = grind (arith, nat_tests, no_key 0 (omega arith), map_of-insert rows k v i (no_key_before_tail x rows k i no_key) q)

-- without the one row that has the key, the key is gone, and nothing else
pub map_of-remove : (rows : List (ℕ × ℕ)) (k i : ℕ) → HasRisingKeys rows → IsAt rows k i → (q : ℕ) → map_of (remove rows i) q ≡ (if eqb q k then None else map_of rows q)
map_of-remove [] k i rising is_at q = absurd (omega (arith, is_at.in_range))
map_of-remove (x ∷ rows) k zero rising is_at q =
    let gone : map_of rows k ≡ None = map_of-absent rows k (λ j lt same. omega (arith, rising 0 (suc j) (omega arith) (omega arith), is_at.has_key)) in
    grind (arith, nat_tests, is_at.has_key, gone)
map_of-remove (x ∷ rows) k (suc i) rising is_at q =
    let below : key_at (x ∷ rows) 0 < key_at (x ∷ rows) (suc i) = rising 0 (suc i) (omega arith) is_at.in_range in
    grind (arith, nat_tests, below, is_at.has_key, map_of-remove rows k i (rising_tail x rows rising) (is_at_tail x rows k i is_at) q)

-- another value in the one row that has the key sets the value there, and nothing else
pub map_of-set : (rows : List (ℕ × ℕ)) (k v i : ℕ) → HasRisingKeys rows → IsAt rows k i → (q : ℕ) → map_of (set rows i (k, v)) q ≡ (if eqb q k then Some v else map_of rows q)
map_of-set [] k v i rising is_at q = absurd (omega (arith, is_at.in_range))
map_of-set (x ∷ rows) k v zero rising is_at q = grind (arith, nat_tests, is_at.has_key)
map_of-set (x ∷ rows) k v (suc i) rising is_at q =
    let below : key_at (x ∷ rows) 0 < key_at (x ∷ rows) (suc i) = rising 0 (suc i) (omega arith) is_at.in_range in
    grind (arith, nat_tests, below, is_at.has_key, map_of-set rows k v i (rising_tail x rows rising) (is_at_tail x rows k i is_at) q)

-- a pair of the map is a row
pub row_of-pair : (rows : List (ℕ × ℕ)) (k v : ℕ) → map_of rows k ≡ Some v → (i : ℕ) × (i < length rows) × (get_or rows i (0, 0) ≡ (k, v))
row_of-pair [] k v e = let none : ⊥ = cc in absurd none
row_of-pair (x ∷ rows) k v e = elim (cases_eq x.0 k) [
  | inl same ↦ (0, omega arith, grind (arith, nat_tests, same, e))
  | inr other ↦ let tail : map_of rows k ≡ Some v = grind (arith, nat_tests, other, e) in
      let r = row_of-pair rows k v tail in (suc r.0, omega (arith, r.1), r.2)
]
