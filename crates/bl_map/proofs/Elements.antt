-- The elements of a list are changed, one after another.
use Rattle.std.proofs.Common.{◌≡◌, ℕ, zero, suc, ◌+◌, ◌<◌, List, [], ◌∷◌, ◌++◌, length, take, drop, set, get_or, refl, sym, ap, ◌∙◌, arith, add-one}

-- the first ones, and one more that has changed
pub take_set : {A : Type 0} (ps : List A) (i : ℕ) (r : A) → i < length ps → take (i + 1) (set ps i r) ≡ take i ps ++ r ∷ []
take_set ps i r low = rw add-one (go ps i r low)
  where
    go : {B : Type 0} (ps : List B) (i : ℕ) (r : B) → i < length ps → take (suc i) (set ps i r) ≡ take i ps ++ r ∷ []
    go [] i r low = absurd (omega arith)
    go (p ∷ ps) zero r low = refl
    go (p ∷ ps) (suc i) r low = ap (λ (z : List _). p ∷ z) (go ps i r (omega arith))

-- the next one is as it was
pub next_is : {A : Type 0} (others now : List A) (i : ℕ) (d : A) → drop i now ≡ drop i others → i < length now → get_or now i d ≡ get_or others i d
next_is [] [] i d is low = refl
next_is [] (q ∷ now) zero d is low = cc
next_is [] (q ∷ now) (suc i) d is low = absurd (let e = ap length is in let n = length-drop_le now i (omega arith) in omega arith)
  where
    length-drop_le : {B : Type 0} (l : List B) (k : ℕ) → k < length l → 0 < length (drop k l)
    length-drop_le [] k low = absurd (omega arith)
    length-drop_le (x ∷ l) zero low = omega arith
    length-drop_le (x ∷ l) (suc k) low = length-drop_le l k (omega arith)
next_is (p ∷ others) [] i d is low = absurd (omega arith)
next_is (p ∷ others) (q ∷ now) zero d is low = cc
next_is (p ∷ others) (q ∷ now) (suc i) d is low = next_is others now i d is (omega arith)

pub drop_set : {A : Type 0} (ps : List A) (i : ℕ) (r : A) → drop (suc i) (set ps i r) ≡ drop (suc i) ps
drop_set [] i r = refl
drop_set (p ∷ ps) zero r = refl
drop_set (p ∷ ps) (suc i) r = drop_set ps i r

pub drop_one : {A : Type 0} (xs ys : List A) (i : ℕ) → drop i xs ≡ drop i ys → drop (suc i) xs ≡ drop (suc i) ys
drop_one xs ys i is = sym (more xs i) ∙ (ap (drop 1) is ∙ more ys i)
  where
    more : {B : Type 0} (l : List B) (i : ℕ) → drop 1 (drop i l) ≡ drop (suc i) l
    more [] zero = refl
    more [] (suc i) = refl
    more (x ∷ l) zero = refl
    more (x ∷ l) (suc i) = more l i
