-- The entries of pairs with one more, with one less, and with another word in one, by their indices.
use Rattle.std.proofs.Common.{◌≡◌, ◌≢◌, ℕ, zero, suc, ◌+◌, ◌-◌, ◌*◌, ◌<◌, ◌≤◌, List, [], ◌∷◌, ◌++◌, length, get_or, Some, true, false, refl, sym, subst, inl, inr, arith}
use Rattle.std.specs.Prelude.{nat_lt, ◌==◌, replicate}
use Rattle.std.proofs.lemmas.Bool.{cases_lt, cases_eq}
use Rattle.bl_model.specs.Rows.{map_of}
use Rattle.bl_page.specs.Words.{entries_of}
use Rattle.bl_page.specs.Pairs.{RisesFrom, place}
use Rattle.bl_page.proofs.Lookups.{listed-least}
use Rattle.bl_page.proofs.Halving.{listed-before}
use Rattle.bl_rearrange.specs.Entered.{entered, dropped, replaced}

-- behind entries stand zeros, as behind the end of a list
zeros : (n m : ℕ) → get_or (replicate {A = ℕ} n 0) m 0 ≡ 0
zeros zero m = refl
zeros (suc n) zero = refl
zeros (suc n) (suc m) = zeros n m

pub padded : (es : List ℕ) (n m : ℕ) → get_or (es ++ replicate {A = ℕ} n 0) m 0 ≡ get_or es m 0
padded [] n m = zeros n m
padded (e ∷ es) n zero = refl
padded (e ∷ es) n (suc m) = padded es n m

pub length-entries : (pairs : List (ℕ × ℕ)) → length (entries_of pairs) ≡ 2 * length pairs
length-entries [] = refl
length-entries (pair ∷ pairs) = omega (arith, length-entries pairs)

module _ (key word : ℕ) where
  pub entered-below : (pairs : List (ℕ × ℕ)) (m : ℕ) → m < 2 * place key pairs → get_or (entries_of (entered key word pairs)) m 0 ≡ get_or (entries_of pairs) m 0
  entered-below [] m h = absurd (omega arith)
  entered-below (pair ∷ pairs) zero h = elim (cases_lt key pair.0) [
    | inl lt ↦ let e : nat_lt key pair.0 ≡ true = grind arith in let h' = rw e at h in absurd (omega (arith, h'))
    | inr ge ↦ let e : nat_lt key pair.0 ≡ false = grind arith in rw e refl
  ]
  entered-below (pair ∷ pairs) (suc zero) h = elim (cases_lt key pair.0) [
    | inl lt ↦ let e : nat_lt key pair.0 ≡ true = grind arith in let h' = rw e at h in absurd (omega (arith, h'))
    | inr ge ↦ let e : nat_lt key pair.0 ≡ false = grind arith in rw e refl
  ]
  entered-below (pair ∷ pairs) (suc (suc m)) h = elim (cases_lt key pair.0) [
    | inl lt ↦ let e : nat_lt key pair.0 ≡ true = grind arith in let h' = rw e at h in absurd (omega (arith, h'))
    | inr ge ↦ let e : nat_lt key pair.0 ≡ false = grind arith in let h' = rw e at h in let less : m < 2 * place key pairs = omega (arith, h') in rw e (entered-below pairs m less)
  ]

  pub entered-key : (pairs : List (ℕ × ℕ)) → get_or (entries_of (entered key word pairs)) (2 * place key pairs) 0 ≡ key
  entered-key [] = refl
  entered-key (pair ∷ pairs) = elim (cases_lt key pair.0) [
    | inl lt ↦ let e : nat_lt key pair.0 ≡ true = grind arith in rw e refl
    | inr ge ↦ let e : nat_lt key pair.0 ≡ false = grind arith in let two : 2 * (place key pairs + 1) ≡ suc (suc (2 * place key pairs)) = omega arith in rw (e, two) (entered-key pairs)
  ]

  pub entered-word : (pairs : List (ℕ × ℕ)) → get_or (entries_of (entered key word pairs)) (suc (2 * place key pairs)) 0 ≡ word
  entered-word [] = refl
  entered-word (pair ∷ pairs) = elim (cases_lt key pair.0) [
    | inl lt ↦ let e : nat_lt key pair.0 ≡ true = grind arith in rw e refl
    | inr ge ↦ let e : nat_lt key pair.0 ≡ false = grind arith in let two : 2 * (place key pairs + 1) ≡ suc (suc (2 * place key pairs)) = omega arith in rw (e, two) (entered-word pairs)
  ]

  pub entered-above : (pairs : List (ℕ × ℕ)) (m : ℕ) → 2 * place key pairs ≤ m → get_or (entries_of (entered key word pairs)) (suc (suc m)) 0 ≡ get_or (entries_of pairs) m 0
  entered-above [] m h = refl
  entered-above (pair ∷ pairs) zero h = elim (cases_lt key pair.0) [
    | inl lt ↦ let e : nat_lt key pair.0 ≡ true = grind arith in rw e refl
    | inr ge ↦ let e : nat_lt key pair.0 ≡ false = grind arith in let h' = rw e at h in absurd (omega (arith, h'))
  ]
  entered-above (pair ∷ pairs) (suc zero) h = elim (cases_lt key pair.0) [
    | inl lt ↦ let e : nat_lt key pair.0 ≡ true = grind arith in rw e refl
    | inr ge ↦ let e : nat_lt key pair.0 ≡ false = grind arith in let h' = rw e at h in absurd (omega (arith, h'))
  ]
  entered-above (pair ∷ pairs) (suc (suc m)) h = elim (cases_lt key pair.0) [
    | inl lt ↦ let e : nat_lt key pair.0 ≡ true = grind arith in rw e refl
    | inr ge ↦ let e : nat_lt key pair.0 ≡ false = grind arith in let h' = rw e at h in let more : 2 * place key pairs ≤ m = omega (arith, h') in rw e (entered-above pairs m more)
  ]

-- no key is at or below one that lies below all
place-none : (key least : ℕ) (pairs : List (ℕ × ℕ)) → key < least → RisesFrom least pairs → place key pairs ≡ 0
place-none key least [] lt h = refl
place-none key least (pair ∷ pairs) lt h = let e : nat_lt key pair.0 ≡ true = grind (arith, h.0) in rw e refl

module _ (key value : ℕ) where
  -- behind a first pair that stays
  below_by : (pair : ℕ × ℕ) (pairs : List (ℕ × ℕ)) → ((k : ℕ) → k + 2 < 2 * place key pairs → get_or (entries_of (dropped key pairs)) k 0 ≡ get_or (entries_of pairs) k 0)
      → (k : ℕ) → k < 2 * place key pairs → get_or (pair.0 ∷ pair.1 ∷ entries_of (dropped key pairs)) k 0 ≡ get_or (pair.0 ∷ pair.1 ∷ entries_of pairs) k 0
  below_by pair pairs rest zero h = refl
  below_by pair pairs rest (suc zero) h = refl
  below_by pair pairs rest (suc (suc k)) h = rest k (omega (arith, h))

  above_by : (pair : ℕ × ℕ) (pairs : List (ℕ × ℕ)) → ((k : ℕ) → 2 * place key pairs ≤ k + 2 → get_or (entries_of (dropped key pairs)) k 0 ≡ get_or (entries_of pairs) (suc (suc k)) 0)
      → (k : ℕ) → 0 < place key pairs → 2 * place key pairs ≤ k → get_or (pair.0 ∷ pair.1 ∷ entries_of (dropped key pairs)) k 0 ≡ get_or (entries_of pairs) k 0
  above_by pair pairs rest zero some h = absurd (omega (arith, some, h))
  above_by pair pairs rest (suc zero) some h = absurd (omega (arith, some, h))
  above_by pair pairs rest (suc (suc k)) some h = rest k (omega (arith, h))

  pub dropped-below : (least : ℕ) (pairs : List (ℕ × ℕ)) (m : ℕ) → RisesFrom least pairs → map_of pairs key ≡ Some value → m + 2 < 2 * place key pairs → get_or (entries_of (dropped key pairs)) m 0 ≡ get_or (entries_of pairs) m 0
  dropped-below least [] m rises is h = absurd (omega arith)
  dropped-below least (pair ∷ pairs) m rises is h = elim (cases_eq pair.0 key) [
    | inl same ↦
        let none : place key pairs ≡ 0 = place-none key (pair.0 + 1) pairs (omega (arith, same)) rises.1 in
        let e : nat_lt key pair.0 ≡ false = grind (arith, same) in
        let h' = rw e at h in absurd (omega (arith, h', none))
    | inr other ↦
        let rest : map_of pairs key ≡ Some value = grind (arith, is, other) in
        let after = listed-least (pair.0 + 1) key value pairs rises.1 rest in
        let e : nat_lt key pair.0 ≡ false = grind (arith, after) in
        let d : (pair.0 == key) ≡ false = grind (arith, other) in
        let h' = rw e at h in rw d (below_by pair pairs (λ k lt. dropped-below (pair.0 + 1) pairs k rises.1 rest lt) m (omega (arith, h')))
  ]

  pub dropped-above : (least : ℕ) (pairs : List (ℕ × ℕ)) (m : ℕ) → RisesFrom least pairs → map_of pairs key ≡ Some value → 2 * place key pairs ≤ m + 2 → get_or (entries_of (dropped key pairs)) m 0 ≡ get_or (entries_of pairs) (suc (suc m)) 0
  dropped-above least [] m rises is h = absurd cc
  dropped-above least (pair ∷ pairs) m rises is h = elim (cases_eq pair.0 key) [
    | inl same ↦ let d : (pair.0 == key) ≡ true = grind (arith, same) in rw d refl
    | inr other ↦
        let rest : map_of pairs key ≡ Some value = grind (arith, is, other) in
        let after = listed-least (pair.0 + 1) key value pairs rises.1 rest in
        let e : nat_lt key pair.0 ≡ false = grind (arith, after) in
        let d : (pair.0 == key) ≡ false = grind (arith, other) in
        let h' = rw e at h in
        let some = (listed-before (pair.0 + 1) key value pairs rises.1 rest).0 in
        rw d (above_by pair pairs (λ k le. dropped-above (pair.0 + 1) pairs k rises.1 rest le) m some (omega (arith, h')))
  ]

module _ (key word value : ℕ) where
  pub replaced-there : (least : ℕ) (pairs : List (ℕ × ℕ)) (m : ℕ) → RisesFrom least pairs → map_of pairs key ≡ Some value → m + 1 ≡ 2 * place key pairs → get_or (entries_of (replaced key word pairs)) m 0 ≡ word
  replaced-there least [] m rises is h = absurd cc
  replaced-there least (pair ∷ pairs) m rises is h = elim (cases_eq pair.0 key) [
    | inl same ↦
        let none : place key pairs ≡ 0 = place-none key (pair.0 + 1) pairs (omega (arith, same)) rises.1 in
        let e : nat_lt key pair.0 ≡ false = grind (arith, same) in
        let d : (pair.0 == key) ≡ true = grind (arith, same) in
        let h' = rw e at h in
        let one : m ≡ 1 = omega (arith, h', none) in
        rw (d, one) refl
    | inr other ↦
        let rest : map_of pairs key ≡ Some value = grind (arith, is, other) in
        let after = listed-least (pair.0 + 1) key value pairs rises.1 rest in
        let e : nat_lt key pair.0 ≡ false = grind (arith, after) in
        let d : (pair.0 == key) ≡ false = grind (arith, other) in
        let h' = rw e at h in
        let some = (listed-before (pair.0 + 1) key value pairs rises.1 rest).0 in
        let k : m ≡ suc (suc (m - 2)) = omega (arith, h', some) in
        rw d (subst (λ n. get_or (pair.0 ∷ pair.1 ∷ entries_of (replaced key word pairs)) n 0 ≡ word) (sym k) (replaced-there (pair.0 + 1) pairs (m - 2) rises.1 rest (omega (arith, h', some))))
  ]

  pub replaced-other : (least : ℕ) (pairs : List (ℕ × ℕ)) (m : ℕ) → RisesFrom least pairs → map_of pairs key ≡ Some value → m + 1 ≢ 2 * place key pairs → get_or (entries_of (replaced key word pairs)) m 0 ≡ get_or (entries_of pairs) m 0
  replaced-other least [] m rises is h = refl
  replaced-other least (pair ∷ pairs) m rises is h = elim (cases_eq pair.0 key) [
    | inl same ↦
        let none : place key pairs ≡ 0 = place-none key (pair.0 + 1) pairs (omega (arith, same)) rises.1 in
        let e : nat_lt key pair.0 ≡ false = grind (arith, same) in
        let d : (pair.0 == key) ≡ true = grind (arith, same) in
        let h' = rw e at h in
        rw d (but_one pair pairs same m (λ i. h' (omega (arith, i, none))))
    | inr other ↦
        let rest : map_of pairs key ≡ Some value = grind (arith, is, other) in
        let after = listed-least (pair.0 + 1) key value pairs rises.1 rest in
        let e : nat_lt key pair.0 ≡ false = grind (arith, after) in
        let d : (pair.0 == key) ≡ false = grind (arith, other) in
        let h' = rw e at h in
        rw d (behind_first pair pairs (λ k n. replaced-other (pair.0 + 1) pairs k rises.1 rest n) m h')
  ]
    where
      but_one : (pair : ℕ × ℕ) (pairs : List (ℕ × ℕ)) → pair.0 ≡ key → (k : ℕ) → k ≢ 1 → get_or (key ∷ word ∷ entries_of pairs) k 0 ≡ get_or (pair.0 ∷ pair.1 ∷ entries_of pairs) k 0
      but_one pair pairs same zero n = sym same
      but_one pair pairs same (suc zero) n = absurd (n refl)
      but_one pair pairs same (suc (suc k)) n = refl

      behind_first : (pair : ℕ × ℕ) (pairs : List (ℕ × ℕ)) → ((k : ℕ) → k + 1 ≢ 2 * place key pairs → get_or (entries_of (replaced key word pairs)) k 0 ≡ get_or (entries_of pairs) k 0)
          → (k : ℕ) → k + 1 ≢ 2 * (place key pairs + 1) → get_or (pair.0 ∷ pair.1 ∷ entries_of (replaced key word pairs)) k 0 ≡ get_or (pair.0 ∷ pair.1 ∷ entries_of pairs) k 0
      behind_first pair pairs rest zero n = refl
      behind_first pair pairs rest (suc zero) n = refl
      behind_first pair pairs rest (suc (suc k)) n = rest k (λ i. n (omega (arith, i)))
