-- Rows: one list behind another, bounds, and rising keys.
use Rattle.std.proofs.Common.{◌≡◌, ℕ, zero, suc, ◌+◌, ◌<◌, ◌≤◌, ◌==◌, if◌then◌else◌, List, [], ◌∷◌, ◌++◌, length, Option, Some, None, refl, sym, ◌∙◌, inl, inr, arith}
use Rattle.std.proofs.lemmas.Bool.{cases_eq}
use Rattle.bl_model.specs.Rows.{map_of, key_at, HasRisingKeys}
use Rattle.bl_page.specs.Pairs.{end_of, IsWithin, RisesFrom, AllWithin}
use Rattle.bl_tree.proofs.SoundPages.{listed_within}

-- maps

pub map_of-front : (a b : List (ℕ × ℕ)) (k : ℕ) → map_of b k ≡ None → map_of (a ++ b) k ≡ map_of a k
map_of-front [] b k none = none
map_of-front (pair ∷ a) b k none = elim (cases_eq pair.0 k) [ inl same ↦ grind arith | inr other ↦ (let r = map_of-front a b k none in grind (arith, r)) ]

pub map_of-back : (a b : List (ℕ × ℕ)) (k : ℕ) → map_of a k ≡ None → map_of (a ++ b) k ≡ map_of b k
map_of-back [] b k none = refl
map_of-back (pair ∷ a) b k none = elim (cases_eq pair.0 k) [
  | inl same ↦ absurd (let e : (if pair.0 == k then Some pair.1 else map_of a k) ≡ Some pair.1 = grind arith in let f : Some pair.1 ≡ None = sym e ∙ none in cc)
  | inr other ↦
      let e : (if pair.0 == k then Some pair.1 else map_of a k) ≡ map_of a k = grind arith in
      let f : (if pair.0 == k then Some pair.1 else map_of (a ++ b) k) ≡ map_of (a ++ b) k = grind arith in
      f ∙ map_of-back a b k (sym e ∙ none)
]

pub none_outside : (low high k : ℕ) (pairs : List (ℕ × ℕ)) → AllWithin low high pairs → ¬ IsWithin low high k → map_of pairs k ≡ None
none_outside low high k pairs within out = by_value (map_of pairs k) refl
  where
    by_value : (o : Option ℕ) → map_of pairs k ≡ o → map_of pairs k ≡ None
    by_value None is = is
    by_value (Some v) is = absurd (out (listed_within low high pairs k v within is))

-- bounds

pub AllWithin-wider : (low high below above : ℕ) (pairs : List (ℕ × ℕ)) → below ≤ low → end_of high ≤ end_of above → AllWithin low high pairs → AllWithin below above pairs
AllWithin-wider low high below above [] le ge h = tt
AllWithin-wider low high below above (pair ∷ pairs) le ge h = ((omega (arith, h.0.0), omega (arith, h.0.1)), AllWithin-wider low high below above pairs le ge h.1)

pub AllWithin-append : (low high : ℕ) (a b : List (ℕ × ℕ)) → AllWithin low high a → AllWithin low high b → AllWithin low high (a ++ b)
AllWithin-append low high [] b h k = k
AllWithin-append low high (pair ∷ a) b h k = (h.0, AllWithin-append low high a b h.1 k)

-- rising keys

pub RisesFrom-less : (least low : ℕ) (pairs : List (ℕ × ℕ)) → least ≤ low → RisesFrom low pairs → RisesFrom least pairs
RisesFrom-less least low [] le h = tt
RisesFrom-less least low (pair ∷ pairs) le h = (omega (arith, h.0), h.1)

pub RisesFrom-low : (low high : ℕ) (pairs : List (ℕ × ℕ)) → RisesFrom 0 pairs → AllWithin low high pairs → RisesFrom low pairs
RisesFrom-low low high [] h w = tt
RisesFrom-low low high (pair ∷ pairs) h w = (w.0.0, h.1)

pub RisesFrom-append : (least low high : ℕ) (a b : List (ℕ × ℕ)) → least ≤ end_of high → RisesFrom least a → AllWithin low high a → RisesFrom (end_of high) b → RisesFrom least (a ++ b)
RisesFrom-append least low high [] b le h w k = RisesFrom-less least (end_of high) b le k
RisesFrom-append least low high (pair ∷ a) b le h w k = (h.0, RisesFrom-append (pair.0 + 1) low high a b (omega (arith, w.0.1)) h.1 w.1 k)

key_above : (least j : ℕ) (rows : List (ℕ × ℕ)) → RisesFrom least rows → j < length rows → least ≤ key_at rows j
key_above least j [] h lt = absurd (omega arith)
key_above least zero (row ∷ rows) h lt = h.0
key_above least (suc j) (row ∷ rows) h lt = let r = key_above (row.0 + 1) j rows h.1 (omega arith) in omega (arith, h.0, r)

pub rising_keys : (least : ℕ) (rows : List (ℕ × ℕ)) → RisesFrom least rows → HasRisingKeys rows
rising_keys least [] h i j lt in_range = absurd (omega arith)
rising_keys least (row ∷ rows) h i zero lt in_range = absurd (omega arith)
rising_keys least (row ∷ rows) h zero (suc j) lt in_range = let r = key_above (row.0 + 1) j rows h.1 (omega arith) in omega (arith, r)
rising_keys least (row ∷ rows) h (suc i) (suc j) lt in_range = rising_keys (row.0 + 1) rows h.1 i j (omega arith) (omega arith)
