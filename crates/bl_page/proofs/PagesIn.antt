-- Page numbers behind the head.
use Rattle.std.proofs.Common.{◌≡◌, ℕ, zero, suc, ◌+◌, ◌<◌, ◌≤◌, ◌^◌, List, [], ◌∷◌, ◌++◌, length, get_or, take, drop, ap, subst, ◌∙◌, arith}
use Rattle.std.proofs.lemmas.List.{get_or-drop, get_or-take}
use Rattle.bl_page.specs.Pairs.{AreNumbers, AreChildren, NameNumbers, IsNumber, IsChild}

pub AreNumbers-at : (most : ℕ) (xs : List ℕ) (i : ℕ) → AreNumbers most xs → i < length xs → IsNumber most (get_or xs i 0)
AreNumbers-at most [] i h lt = absurd (omega arith)
AreNumbers-at most (x ∷ xs) zero h lt = h.0
AreNumbers-at most (x ∷ xs) (suc i) h lt = AreNumbers-at most xs i h.1 (omega arith)

pub AreChildren-at : (xs : List ℕ) (i : ℕ) → AreChildren xs → i < length xs → IsChild (get_or xs i 0)
AreChildren-at xs i h lt = AreNumbers-at (2 ^ 32) xs i h lt

pub AreNumbers-push : (most : ℕ) (xs : List ℕ) (x : ℕ) → AreNumbers most xs → IsNumber most x → AreNumbers most (xs ++ x ∷ [])
AreNumbers-push most [] x h is = (is, tt)
AreNumbers-push most (y ∷ xs) x h is = (h.0, AreNumbers-push most xs x h.1 is)

pub AreChildren-push : (xs : List ℕ) (x : ℕ) → AreChildren xs → IsChild x → AreChildren (xs ++ x ∷ [])
AreChildren-push xs x h is = AreNumbers-push (2 ^ 32) xs x h is

-- numbers below a bound are below a greater one
pub AreNumbers-up : (least most : ℕ) (xs : List ℕ) → least ≤ most → AreNumbers least xs → AreNumbers most xs
AreNumbers-up least most [] up h = tt
AreNumbers-up least most (x ∷ xs) up h = ((h.0.0, (let lt = h.0.1 in omega arith)), AreNumbers-up least most xs up h.1)

pub NameNumbers-up : (least most : ℕ) (pairs : List (ℕ × ℕ)) → least ≤ most → NameNumbers least pairs → NameNumbers most pairs
NameNumbers-up least most [] up h = tt
NameNumbers-up least most (pair ∷ pairs) up h = ((h.0.0, (let lt = h.0.1 in omega arith)), NameNumbers-up least most pairs up h.1)

-- a number that is no page's is among the first
pub not_numbers : (most : ℕ) (words : List ℕ) (count i : ℕ) → i < count → count ≤ length (drop 4 words) → ¬ IsNumber most (get_or words (4 + i) 0) → ¬ AreNumbers most (take count (drop 4 words))
not_numbers most words count i lt few other all =
    let at : get_or (take count (drop 4 words)) i 0 ≡ get_or words (4 + i) 0 = get_or-take count (drop 4 words) i 0 lt ∙ get_or-drop 4 words i 0 in
    other (subst (IsNumber most) at (AreNumbers-at most (take count (drop 4 words)) i all (omega (arith, length_take count (drop 4 words) few))))
  where
    length_take : (n : ℕ) (xs : List ℕ) → n ≤ length xs → length (take n xs) ≡ n
    length_take zero xs h = omega arith
    length_take (suc n) [] h = absurd (omega arith)
    length_take (suc n) (x ∷ xs) h = ap suc (length_take n xs (omega arith))
