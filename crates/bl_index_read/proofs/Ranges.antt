-- Rows with keys in order: what a filter keeps, and rows behind rows.
use Rattle.std.proofs.Common.{◌≡◌, ◌⊎◌, ℕ, zero, suc, ◌<◌, ◌≤◌, Bool, true, false, Option, Some, None, List, [], ◌∷◌, ◌++◌, get_or, take, cond, refl, sym, ap, ◌∙◌, subst, arith, inl, inr, ⊎_elim}
use Rattle.std.specs.Prelude.{All, AllPairs, Contains, filter}
use Rattle.std.proofs.lemmas.List.{get_or_default}
use Rattle.std.proofs.lemmas.List.Kept.{AllPairs-cons, AllPairs-filter}
use Rattle.std.proofs.lemmas.List.Elements.{All-append, All-contains, All-contains_itself, All-filter, All-weaker, filter_passes}
use Rattle.std.specs.List.Sorted.{IsPartitionPoint, IsNonDecreasingBy}
use Rattle.std.proofs.lemmas.List.Sorted.{IsNonDecreasingBy-from_default}
use Rattle.std.proofs.lemmas.Bool.{cases_eq}
use Rattle.std.proofs.lemmas.Bool.Decides.{nat_tests}
use Rattle.bl_model.specs.Rows.{HasRisingKeys}
use Rattle.bl_proc.specs.declared.parts.Direction.{Direction}
use Rattle.bl_proc.specs.declared.parts.Direction.TheVariants.{Up}
use Rattle.bl_index_read.specs.LeafRows.{IsBelow, is_below, IsBefore, IsFrom, AreInOrder}
use Rattle.bl_index_read.proofs.Orders.{before_from}

-- ---- a test that keeps rows

pub below_true : (end : Option ℕ) (key : ℕ) → IsBelow end key → is_below end key ≡ true
below_true None key is = refl
below_true (Some end) key is = grind (arith, nat_tests, is)

-- so is the least key, where any is
pub below_less : (end : Option ℕ) (key : ℕ) → IsBelow end key → IsBelow end 0
below_less None key is = tt
below_less (Some end) key is = omega (arith, is)

module _ {X : Type 0} (p : X → Bool) where
  in_cons : (y : X) (ys : List X) (x : X) → Contains (y ∷ ys) x → (y ≡ x) ⊎ Contains ys x
  in_cons y ys x (zero, lt, is) = inl is
  in_cons y ys x (suc k, lt, is) = inr (k, omega arith, is)

  in_front : (y : X) (ys : List X) (x : X) → y ≡ x → Contains (y ∷ ys) x
  in_front y ys x is = (0, omega arith, is)

  in_rest : (y : X) (ys : List X) (x : X) → Contains ys x → Contains (y ∷ ys) x
  in_rest y ys x (k, lt, is) = (suc k, omega arith, is)

  kept_rest : (b : Bool) (y : X) (ys : List X) (x : X) → Contains ys x → Contains (cond b (y ∷ ys) ys) x
  kept_rest true y ys x c = in_rest y ys x c
  kept_rest false y ys x c = c

  kept_front : (b : Bool) (y : X) (ys : List X) (x : X) → b ≡ true → y ≡ x → Contains (cond b (y ∷ ys) ys) x
  kept_front true y ys x t is = in_front y ys x is
  kept_front false y ys x t is = let none : ⊥ = cc in absurd none

  pub filter_keeps : (xs : List X) (x : X) → Contains xs x → p x ≡ true → Contains (filter p xs) x
  filter_keeps [] x (k, lt, is) t = absurd (omega arith)
  filter_keeps (y ∷ ys) x c t = ⊎_elim
      (λ (is : y ≡ x). kept_front (p y) y (filter p ys) x (ap p is ∙ t) is)
      (λ (there : Contains ys x). kept_rest (p y) y (filter p ys) x (filter_keeps ys x there t))
      (in_cons y ys x c)

  pub filter_has : (xs : List X) (x : X) → Contains (filter p xs) x → Contains xs x × (p x ≡ true)
  filter_has xs x c = (
    All-contains (Contains xs) (filter p xs) x (All-filter p (Contains xs) xs (All-contains_itself xs)) c,
    All-contains (λ y. p y ≡ true) (filter p xs) x (filter_passes p xs) c,
  )

-- ---- keys in order

abbrev Before : Direction → (ℕ × ℕ) → (ℕ × ℕ) → Type 0
Before direction a b = IsBefore direction (Some b.0) a.0

ordered : (direction : Direction) (xs : List (ℕ × ℕ)) → AreInOrder direction xs → AllPairs (Before direction) xs
ordered direction xs h i j d lt within =
    let x : (get_or xs i (0, 0)).0 ≡ (get_or xs i d).0 = ap (λ (r : ℕ × ℕ). r.0) (get_or_default xs i (0, 0) d (omega arith)) in
    let y : (get_or xs j (0, 0)).0 ≡ (get_or xs j d).0 = ap (λ (r : ℕ × ℕ). r.0) (get_or_default xs j (0, 0) d (omega arith)) in
    subst (λ (z : ℕ × ℕ). IsBefore direction (Some z.1) z.0) (λ k. (x k, y k)) (h i j lt within)

in_order : (direction : Direction) (xs : List (ℕ × ℕ)) → AllPairs (Before direction) xs → AreInOrder direction xs
in_order direction xs h i j lt within = h i j (0, 0) lt within

pub order_filter : (direction : Direction) (p : ℕ × ℕ → Bool) (xs : List (ℕ × ℕ)) → AreInOrder direction xs → AreInOrder direction (filter p xs)
order_filter direction p xs h = in_order direction (filter p xs) (AllPairs-filter (Before direction) p xs (ordered direction xs h))

behind : (direction : Direction) (n : ℕ) (xs ys : List (ℕ × ℕ)) → AllPairs (Before direction) xs → AllPairs (Before direction) ys
    → All (λ r. IsBefore direction (Some n) r.0) xs → All (λ r. IsFrom direction n r.0) ys → AllPairs (Before direction) (xs ++ ys)
behind direction n [] ys a b low high = b
behind direction n (x ∷ xs) ys a b low high =
    let here : IsBefore direction (Some n) x.0 = low 0 x (omega arith) in
    AllPairs-cons (Before direction) x (xs ++ ys)
    (All-append (Before direction x) xs ys (λ k d lt. a 0 (suc k) d (omega arith) (omega arith)) (All-weaker (λ r. IsFrom direction n r.0) (Before direction x) (λ r from. before_from direction n x.0 r.0 here from) ys high))
    (behind direction n xs ys (λ i j d lt within. a (suc i) (suc j) d (omega arith) (omega arith)) b (λ k d lt. low (suc k) d (omega arith)) high)

-- rows from a key on stand behind those before it
pub order_behind : (direction : Direction) (n : ℕ) (xs ys : List (ℕ × ℕ)) → AreInOrder direction xs → AreInOrder direction ys
    → All (λ r. IsBefore direction (Some n) r.0) xs → All (λ r. IsFrom direction n r.0) ys → AreInOrder direction (xs ++ ys)
order_behind direction n xs ys a b low high = in_order direction (xs ++ ys) (behind direction n xs ys (ordered direction xs a) (ordered direction ys b) low high)

pub rising_filter : (p : ℕ × ℕ → Bool) (xs : List (ℕ × ℕ)) → HasRisingKeys xs → HasRisingKeys (filter p xs)
rising_filter p xs h = order_filter Up p xs h

pub rising_behind : (n : ℕ) (xs ys : List (ℕ × ℕ)) → HasRisingKeys xs → HasRisingKeys ys → All (λ r. r.0 < n) xs → All (λ r. n ≤ r.0) ys → HasRisingKeys (xs ++ ys)
rising_behind n xs ys a b low high = order_behind Up n xs ys a b low high

-- ---- the first rows that pass

nothing_taken : {X : Type 0} (i : ℕ) → take {A = X} i [] ≡ []
nothing_taken zero = refl
nothing_taken (suc i) = refl

pub first_rows : {X : Type 0} (p : X → Bool) (xs : List X) (i : ℕ) → IsPartitionPoint (λ y. p y ≡ true) (λ y. p y ≡ false) xs i → take i xs ≡ filter p xs
first_rows p [] i point = nothing_taken i
first_rows p (x ∷ xs) zero point =
    let fails : p x ≡ false = point.1 0 x (omega arith) (omega arith) in
    rw fails (sym (nothing_taken 0) ∙ first_rows p xs 0 ((λ k d low high. absurd (omega arith)), (λ k d low high. point.1 (suc k) d (omega arith) (omega arith))))
first_rows p (x ∷ xs) (suc i) point =
    let passes : p x ≡ true = point.0 0 x (omega arith) (omega arith) in
    rw passes (ap (λ (z : List _). x ∷ z) (first_rows p xs i ((λ k d low high. point.0 (suc k) d (omega arith) (omega arith)), (λ k d low high. point.1 (suc k) d (omega arith) (omega arith)))))

pub none_fails : {X : Type 0} (xs : List X) → xs ≡ filter (λ _. true) xs
none_fails [] = refl
none_fails (x ∷ xs) = ap (λ (z : List _). x ∷ z) (none_fails xs)

-- ---- a search by a key

pub keys_rise : (xs : List (ℕ × ℕ)) → HasRisingKeys xs → IsNonDecreasingBy (λ (row : ℕ × ℕ). row.0) xs
keys_rise xs h = IsNonDecreasingBy-from_default (λ (row : ℕ × ℕ). row.0) xs (0, 0) (λ i j le within. ⊎_elim
    (λ (same : i ≡ j). let e = ap (λ (k : ℕ). (get_or xs k (0, 0)).0) same in omega (arith, e))
    (λ (other : i ≡ j → ⊥). let lt : i < j = omega (arith, other) in omega (arith, h i j lt within))
    (cases_eq i j))
