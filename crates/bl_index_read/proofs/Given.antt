-- A sink is given one row after another.
use Rattle.std.proofs.Common.{ℕ, ◌≡◌, ◌+◌, ◌-◌, ◌<◌, ◌≤◌, List, [], ◌∷◌, ◌++◌, get_or, take, drop, length, reverse, refl, sym, ap, ◌∙◌, subst, arith}
use Rattle.std.proofs.lemmas.List.{get_or-drop, get_or-take, get_or-reverse, length-drop, length-reverse, length-take-le, take_all, take_more}
use Rattle.bl_index_read.proofs.Picked.{taken_more}

-- one row more
pub given_more : {P : Type 0} (T : P → List (ℕ × ℕ) → P → Type 0) → ((p q r : P) (xs ys : List (ℕ × ℕ)) → T p xs q → T q ys r → T p (xs ++ ys) r)
    → (rows : List (ℕ × ℕ)) (first i : ℕ) (row : ℕ × ℕ) (p q r : P) → first ≤ i → i < length rows → row ≡ get_or rows i (0, 0)
    → T p (take (i - first) (drop first rows)) q → T q (row ∷ []) r → T p (take (i + 1 - first) (drop first rows)) r
given_more T more rows first i row p q r low lt is given last =
    subst (λ (z : List (ℕ × ℕ)). T p z r) (taken_more rows [] (take (i - first) (drop first rows)) first i row low lt is refl)
    (more p q r (take (i - first) (drop first rows)) (row ∷ []) given last)

-- or one row more from the back
pub given_back : {P : Type 0} (T : P → List (ℕ × ℕ) → P → Type 0) → ((p q r : P) (xs ys : List (ℕ × ℕ)) → T p xs q → T q ys r → T p (xs ++ ys) r)
    → (rows : List (ℕ × ℕ)) (first last i : ℕ) (row : ℕ × ℕ) (p q r : P) → last ≤ length rows → i < last - first → row ≡ get_or rows (last - 1 - i) (0, 0)
    → T p (take i (reverse (take (last - first) (drop first rows)))) q → T q (row ∷ []) r → T p (take (i + 1) (reverse (take (last - first) (drop first rows)))) r
given_back T more rows first last i row p q r within lt is given one =
    let many : ℕ = last - first in
    let part : List (ℕ × ℕ) = take many (drop first rows) in
    let back : List (ℕ × ℕ) = reverse part in
    let rest = length-drop first rows in
    let size : length part ≡ many = length-take-le many (drop first rows) (omega (arith, rest, within)) in
    let long : length back ≡ many = length-reverse part ∙ size in
    let place : first + (length part - 1 - i) ≡ last - 1 - i = omega (arith, size, lt) in
    let here : get_or back i (0, 0) ≡ get_or rows (last - 1 - i) (0, 0) = get_or-reverse part i (0, 0) (omega (arith, size, lt))
    ∙ (get_or-take many (drop first rows) (length part - 1 - i) (0, 0) (omega (arith, size, lt)) ∙ (get_or-drop first rows (length part - 1 - i) (0, 0) ∙ ap (λ (q : ℕ). get_or rows q (0, 0)) place)) in
    subst (λ (z : List (ℕ × ℕ)). T p z r) (ap (λ (z : ℕ × ℕ). take i back ++ z ∷ []) (is ∙ sym here) ∙ sym (take_more back i (0, 0) (omega (arith, long, lt))))
    (more p q r (take i back) (row ∷ []) given one)

-- until all are given
pub all_back : (rows : List (ℕ × ℕ)) (first last i : ℕ) → last ≤ length rows → last - first ≤ i → take i (reverse (take (last - first) (drop first rows))) ≡ reverse (take (last - first) (drop first rows))
all_back rows first last i within all =
    let part : List (ℕ × ℕ) = take (last - first) (drop first rows) in
    let rest = length-drop first rows in
    let size : length part ≡ last - first = length-take-le (last - first) (drop first rows) (omega (arith, rest, within)) in
    let long = length-reverse part in
    take_all i (reverse part) (omega (arith, long, size, all))
