-- Pairs that rise, with one more or one less, or with another word in one.
use Rattle.std.proofs.Common.{◌≡◌, ◌≢◌, ℕ, suc, ◌+◌, ◌-◌, ◌≤◌, List, set, [], ◌∷◌, length, None, Some, true, false, refl, ap, sym, subst, ◌∙◌, add-one, inl, inr, arith}
use Rattle.std.specs.Prelude.{nat_lt, ◌==◌}
use Rattle.std.specs.List.{insert}
use Rattle.std.proofs.lemmas.Bool.{cases_lt, cases_eq}
use Rattle.bl_model.specs.Map.{with_pair, without_key, SameMap}
use Rattle.bl_model.specs.Rows.{map_of}
use Rattle.bl_page.specs.Pairs.{RisesFrom, AllWithin, BeginsWith, NameChildren, IsWithin, IsChild, place}
use Rattle.bl_page.proofs.Lookups.{map_of_below, listed-least}
use Rattle.bl_page.proofs.Halving.{listed-before, place-none}
use Rattle.bl_rearrange.specs.Entered.{entered, dropped, replaced}

-- what `insert` at the place of the key gives
pub insert-place : (key word : ℕ) (pairs : List (ℕ × ℕ)) → insert pairs (place key pairs) (key, word) ≡ entered key word pairs
insert-place key word [] = refl
insert-place key word (pair ∷ pairs) = elim (cases_lt key pair.0) [
  | inl lt ↦ let e : nat_lt key pair.0 ≡ true = grind arith in rw e refl
  | inr ge ↦ let e : nat_lt key pair.0 ≡ false = grind arith in rw (e, add-one) (ap (λ t. pair ∷ t) (insert-place key word pairs))
]

pub length-entered : (key word : ℕ) (pairs : List (ℕ × ℕ)) → length (entered key word pairs) ≡ length pairs + 1
length-entered key word [] = refl
length-entered key word (pair ∷ pairs) = grind (arith, length-entered key word pairs)

pub map_of-entered_same : (key word : ℕ) (pairs : List (ℕ × ℕ)) → map_of pairs key ≡ None → map_of (entered key word pairs) key ≡ Some word
map_of-entered_same key word [] h = grind arith
map_of-entered_same key word (pair ∷ pairs) h = grind (arith, map_of-entered_same key word pairs)

pub map_of-entered_other : (key word j : ℕ) (pairs : List (ℕ × ℕ)) → j ≢ key → map_of (entered key word pairs) j ≡ map_of pairs j
map_of-entered_other key word j [] n = grind arith
map_of-entered_other key word j (pair ∷ pairs) n = grind (arith, map_of-entered_other key word j pairs n)

pub map_of-entered : (key word : ℕ) (pairs : List (ℕ × ℕ)) → map_of pairs key ≡ None → SameMap (with_pair (map_of pairs) key word) (map_of (entered key word pairs))
map_of-entered key word pairs h j = elim (cases_eq j key) [
  | inl same ↦ grind (arith, map_of-entered_same key word pairs h, same)
  | inr other ↦ grind (arith, map_of-entered_other key word j pairs other, other)
]

pub RisesFrom-entered : (key word least : ℕ) (pairs : List (ℕ × ℕ)) → least ≤ key → map_of pairs key ≡ None → RisesFrom least pairs → RisesFrom least (entered key word pairs)
RisesFrom-entered key word least [] le none h = (le, tt)
RisesFrom-entered key word least (pair ∷ pairs) le none h = elim (cases_lt key pair.0) [
  | inl lt ↦ let e : nat_lt key pair.0 ≡ true = grind arith in rw e (le, (omega arith, h.1))
  | inr ge ↦
      let e : nat_lt key pair.0 ≡ false = grind arith in
      let other : pair.0 ≢ key = λ i. absurd (grind arith) in
      let none' : map_of pairs key ≡ None = grind arith in
      rw e (h.0, RisesFrom-entered key word (pair.0 + 1) pairs (omega arith) none' h.1)
]

pub AllWithin-entered : (key word low high : ℕ) (pairs : List (ℕ × ℕ)) → IsWithin low high key → AllWithin low high pairs → AllWithin low high (entered key word pairs)
AllWithin-entered key word low high [] within h = (within, tt)
AllWithin-entered key word low high (pair ∷ pairs) within h = elim (cases_lt key pair.0) [
  | inl lt ↦ let e : nat_lt key pair.0 ≡ true = grind arith in rw e (within, h)
  | inr ge ↦ let e : nat_lt key pair.0 ≡ false = grind arith in rw e (h.0, AllWithin-entered key word low high pairs within h.1)
]

pub BeginsWith-entered : (key word low : ℕ) (pairs : List (ℕ × ℕ)) → low ≤ key → map_of pairs key ≡ None → BeginsWith low pairs → BeginsWith low (entered key word pairs)
BeginsWith-entered key word low [] le none h = absurd h
BeginsWith-entered key word low (pair ∷ pairs) le none h = elim (cases_lt key pair.0) [
  | inl lt ↦ absurd (omega (arith, h))
  | inr ge ↦ let e : nat_lt key pair.0 ≡ false = grind arith in rw e h
]

pub NameChildren-entered : (key word : ℕ) (pairs : List (ℕ × ℕ)) → IsChild word → NameChildren pairs → NameChildren (entered key word pairs)
NameChildren-entered key word [] is h = (is, tt)
NameChildren-entered key word (pair ∷ pairs) is h = elim (cases_lt key pair.0) [
  | inl lt ↦ let e : nat_lt key pair.0 ≡ true = grind arith in rw e (is, h)
  | inr ge ↦ let e : nat_lt key pair.0 ≡ false = grind arith in rw e (h.0, NameChildren-entered key word pairs is h.1)
]

-- ---- one pair less

pub length-dropped_le : (key : ℕ) (pairs : List (ℕ × ℕ)) → length (dropped key pairs) ≤ length pairs
length-dropped_le key [] = omega arith
length-dropped_le key (pair ∷ pairs) = grind (arith, length-dropped_le key pairs)

pub length-dropped : (key value : ℕ) (pairs : List (ℕ × ℕ)) → map_of pairs key ≡ Some value → length (dropped key pairs) + 1 ≡ length pairs
length-dropped key value [] h = absurd cc
length-dropped key value (pair ∷ pairs) h = elim (cases_eq pair.0 key) [
  | inl same ↦ grind (arith, same)
  | inr other ↦ let rest : map_of pairs key ≡ Some value = grind (arith, h, other) in grind (arith, length-dropped key value pairs rest, other)
]

RisesFrom-from : (a b : ℕ) (pairs : List (ℕ × ℕ)) → a ≤ b → RisesFrom b pairs → RisesFrom a pairs
RisesFrom-from a b [] le h = tt
RisesFrom-from a b (pair ∷ pairs) le h = (omega arith, h.1)

pub RisesFrom-dropped : (key least : ℕ) (pairs : List (ℕ × ℕ)) → RisesFrom least pairs → RisesFrom least (dropped key pairs)
RisesFrom-dropped key least [] h = tt
RisesFrom-dropped key least (pair ∷ pairs) h = elim (cases_eq pair.0 key) [
  | inl same ↦ let e : (pair.0 == key) ≡ true = grind arith in rw e (RisesFrom-from least (pair.0 + 1) pairs (omega (arith, h.0)) h.1)
  | inr other ↦ let e : (pair.0 == key) ≡ false = grind arith in rw e (h.0, RisesFrom-dropped key (pair.0 + 1) pairs h.1)
]

pub AllWithin-dropped : (key low high : ℕ) (pairs : List (ℕ × ℕ)) → AllWithin low high pairs → AllWithin low high (dropped key pairs)
AllWithin-dropped key low high [] h = tt
AllWithin-dropped key low high (pair ∷ pairs) h = elim (cases_eq pair.0 key) [
  | inl same ↦ let e : (pair.0 == key) ≡ true = grind arith in rw e h.1
  | inr other ↦ let e : (pair.0 == key) ≡ false = grind arith in rw e (h.0, AllWithin-dropped key low high pairs h.1)
]

pub BeginsWith-dropped : (key low : ℕ) (pairs : List (ℕ × ℕ)) → key ≢ low → BeginsWith low pairs → BeginsWith low (dropped key pairs)
BeginsWith-dropped key low [] other h = absurd h
BeginsWith-dropped key low (pair ∷ pairs) other h = let e : (pair.0 == key) ≡ false = grind (arith, h, other) in rw e h

pub NameChildren-dropped : (key : ℕ) (pairs : List (ℕ × ℕ)) → NameChildren pairs → NameChildren (dropped key pairs)
NameChildren-dropped key [] h = tt
NameChildren-dropped key (pair ∷ pairs) h = elim (cases_eq pair.0 key) [
  | inl same ↦ let e : (pair.0 == key) ≡ true = grind arith in rw e h.1
  | inr other ↦ let e : (pair.0 == key) ≡ false = grind arith in rw e (h.0, NameChildren-dropped key pairs h.1)
]

-- where the keys rise, the key is not there any more
pub map_of-dropped_same : (key least : ℕ) (pairs : List (ℕ × ℕ)) → RisesFrom least pairs → map_of (dropped key pairs) key ≡ None
map_of-dropped_same key least [] h = refl
map_of-dropped_same key least (pair ∷ pairs) h = elim (cases_eq pair.0 key) [
  | inl same ↦ let e : (pair.0 == key) ≡ true = grind arith in rw e (map_of_below (pair.0 + 1) key pairs h.1 (omega arith))
  | inr other ↦ grind (arith, map_of-dropped_same key (pair.0 + 1) pairs h.1, other)
]

pub map_of-dropped_other : (key j : ℕ) (pairs : List (ℕ × ℕ)) → j ≢ key → map_of (dropped key pairs) j ≡ map_of pairs j
map_of-dropped_other key j [] n = refl
map_of-dropped_other key j (pair ∷ pairs) n = grind (arith, map_of-dropped_other key j pairs n)

pub map_of-dropped : (key least : ℕ) (pairs : List (ℕ × ℕ)) → RisesFrom least pairs → SameMap (without_key (map_of pairs) key) (map_of (dropped key pairs))
map_of-dropped key least pairs h j = elim (cases_eq j key) [
  | inl same ↦ grind (arith, map_of-dropped_same key least pairs h, same)
  | inr other ↦ grind (arith, map_of-dropped_other key j pairs other, other)
]

-- ---- another word in one pair

-- what a write at the place before the key's gives
pub set-place : (key word value least : ℕ) (pairs : List (ℕ × ℕ)) → RisesFrom least pairs → map_of pairs key ≡ Some value → set pairs (place key pairs - 1) (key, word) ≡ replaced key word pairs
set-place key word value least [] h listed = absurd cc
set-place key word value least (pair ∷ pairs) h listed = elim (cases_eq pair.0 key) [
  | inl same ↦
      let e : (pair.0 == key) ≡ true = grind arith in
      let none : place key pairs ≡ 0 = place-none (pair.0 + 1) key pairs h.1 (omega (arith, same)) in
      let at : place key (pair ∷ pairs) - 1 ≡ 0 = (let f : nat_lt key pair.0 ≡ false = grind arith in grind (arith, f, none)) in
      rw (e, at) refl
  | inr other ↦
      let e : (pair.0 == key) ≡ false = grind (arith, other) in
      let rest : map_of pairs key ≡ Some value = grind (arith, listed, other) in
      let more = listed-before (pair.0 + 1) key value pairs h.1 rest in
      let f : nat_lt key pair.0 ≡ false = grind (arith, listed-least (pair.0 + 1) key value pairs h.1 rest) in
      let at : place key (pair ∷ pairs) - 1 ≡ suc (place key pairs - 1) = (let g : place key (pair ∷ pairs) ≡ place key pairs + 1 = grind (arith, f) in omega (arith, g, more.0)) in
      rw (e, at) (ap (λ t. pair ∷ t) (set-place key word value (pair.0 + 1) pairs h.1 rest))
]

pub length-replaced : (key word : ℕ) (pairs : List (ℕ × ℕ)) → length (replaced key word pairs) ≡ length pairs
length-replaced key word [] = refl
length-replaced key word (pair ∷ pairs) = grind (arith, length-replaced key word pairs)

pub RisesFrom-replaced : (key word least : ℕ) (pairs : List (ℕ × ℕ)) → RisesFrom least pairs → RisesFrom least (replaced key word pairs)
RisesFrom-replaced key word least [] h = tt
RisesFrom-replaced key word least (pair ∷ pairs) h = elim (cases_eq pair.0 key) [
  | inl same ↦ let e : (pair.0 == key) ≡ true = grind arith in rw e (subst (λ k. (least ≤ k) × RisesFrom (k + 1) pairs) same h)
  | inr other ↦ let e : (pair.0 == key) ≡ false = grind (arith, other) in rw e (h.0, RisesFrom-replaced key word (pair.0 + 1) pairs h.1)
]

pub AllWithin-replaced : (key word low high : ℕ) (pairs : List (ℕ × ℕ)) → AllWithin low high pairs → AllWithin low high (replaced key word pairs)
AllWithin-replaced key word low high [] h = tt
AllWithin-replaced key word low high (pair ∷ pairs) h = elim (cases_eq pair.0 key) [
  | inl same ↦ let e : (pair.0 == key) ≡ true = grind arith in rw e (subst (λ k. IsWithin low high k × AllWithin low high pairs) same h)
  | inr other ↦ let e : (pair.0 == key) ≡ false = grind (arith, other) in rw e (h.0, AllWithin-replaced key word low high pairs h.1)
]

pub BeginsWith-replaced : (key word low : ℕ) (pairs : List (ℕ × ℕ)) → BeginsWith low pairs → BeginsWith low (replaced key word pairs)
BeginsWith-replaced key word low [] h = absurd h
BeginsWith-replaced key word low (pair ∷ pairs) h = elim (cases_eq pair.0 key) [
  | inl same ↦ let e : (pair.0 == key) ≡ true = grind arith in rw e (sym same ∙ h)
  | inr other ↦ let e : (pair.0 == key) ≡ false = grind (arith, other) in rw e h
]

pub NameChildren-replaced : (key word : ℕ) (pairs : List (ℕ × ℕ)) → IsChild word → NameChildren pairs → NameChildren (replaced key word pairs)
NameChildren-replaced key word [] is h = tt
NameChildren-replaced key word (pair ∷ pairs) is h = elim (cases_eq pair.0 key) [
  | inl same ↦ let e : (pair.0 == key) ≡ true = grind arith in rw e (is, h.1)
  | inr other ↦ let e : (pair.0 == key) ≡ false = grind (arith, other) in rw e (h.0, NameChildren-replaced key word pairs is h.1)
]

pub map_of-replaced_same : (key word value : ℕ) (pairs : List (ℕ × ℕ)) → map_of pairs key ≡ Some value → map_of (replaced key word pairs) key ≡ Some word
map_of-replaced_same key word value [] h = absurd cc
map_of-replaced_same key word value (pair ∷ pairs) h = elim (cases_eq pair.0 key) [
  | inl same ↦ grind (arith, same)
  | inr other ↦ (let rest : map_of pairs key ≡ Some value = grind (arith, h, other) in grind (arith, map_of-replaced_same key word value pairs rest, other))
]

pub map_of-replaced_other : (key word j : ℕ) (pairs : List (ℕ × ℕ)) → j ≢ key → map_of (replaced key word pairs) j ≡ map_of pairs j
map_of-replaced_other key word j [] n = refl
map_of-replaced_other key word j (pair ∷ pairs) n = grind (arith, map_of-replaced_other key word j pairs n)

pub map_of-replaced : (key word value : ℕ) (pairs : List (ℕ × ℕ)) → map_of pairs key ≡ Some value → SameMap (with_pair (map_of pairs) key word) (map_of (replaced key word pairs))
map_of-replaced key word value pairs h j = elim (cases_eq j key) [
  | inl same ↦ grind (arith, map_of-replaced_same key word value pairs h, same)
  | inr other ↦ grind (arith, map_of-replaced_other key word j pairs other, other)
]
