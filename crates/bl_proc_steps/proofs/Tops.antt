-- The anchor without its last level.
use Rattle.std.proofs.Common.{ℕ, ◌≡◌, ◌≤◌, zero, suc, List, [], ◌∷◌, length, take, arith, ap}
use Rattle.bl_page.specs.Pairs.{AreChildren}

pub length_take : (n : ℕ) (xs : List ℕ) → n ≤ length xs → length (take n xs) ≡ n
length_take zero xs h = omega arith
length_take (suc n) [] h = absurd (omega arith)
length_take (suc n) (x ∷ xs) h = ap suc (length_take n xs (omega arith))

pub AreChildren-take : (n : ℕ) (xs : List ℕ) → AreChildren xs → AreChildren (take n xs)
AreChildren-take zero xs h = tt
AreChildren-take (suc n) [] h = tt
AreChildren-take (suc n) (x ∷ xs) h = (h.0, AreChildren-take n xs h.1)
