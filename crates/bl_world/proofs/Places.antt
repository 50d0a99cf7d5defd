-- Places of lists.
use Rattle.std.proofs.Common.{ℕ, ◌≡◌, ◌⊎◌, ◌+◌, ◌++◌, zero, suc, Some, List, [], ◌∷◌, length, slice_get, ap, refl, inl, inr, arith}

pub push_length : {A : Type 0} (xs : List A) (y : A) → length (xs ++ y ∷ []) ≡ suc (length xs)
push_length [] y = refl
push_length (x ∷ xs) y = ap suc (push_length xs y)

pub push_plus : {A : Type 0} (xs : List A) (y : A) → length (xs ++ y ∷ []) ≡ length xs + 1
push_plus xs y = (let l = push_length xs y in omega (arith, l))

pub push_cases : {A : Type 0} (xs : List A) (y : A) (i : ℕ) (x : A) → slice_get (xs ++ y ∷ []) i ≡ Some x → (slice_get xs i ≡ Some x) ⊎ ((i ≡ length xs) × (x ≡ y))
push_cases [] y zero x h = inr (refl, cc)
push_cases [] y (suc i) x h = cc
push_cases (z ∷ xs) y zero x h = inl h
push_cases (z ∷ xs) y (suc i) x h = elim (push_cases xs y i x h) [
  | inl e ↦ inl e
  | inr e ↦ inr (ap suc e.0, e.1)
]
