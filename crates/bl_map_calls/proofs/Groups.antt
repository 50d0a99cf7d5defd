-- Lists in parts, each behind those before it.
use Rattle.std.proofs.Common.{ℕ, ◌≡◌, ◌++◌, ◌+◌, ◌-◌, ◌≤◌, List, min, sym, ap, ◌∙◌, length, take, drop, arith}
use Rattle.std.proofs.Math.Seq.{take-add}
use Rattle.std.proofs.lemmas.List.{take_all, take_min, take-append-le, append_assoc, length-append, length-drop, length-take-le}

-- a part has as many as its bounds say
pub part_long : {A : Type 0} (xs : List A) (from to : ℕ) → from ≤ to → to ≤ length xs → length (take (to - from) (drop from xs)) ≡ to - from
part_long xs from to le most = length-take-le (to - from) (drop from xs) (omega (arith, length-drop from xs, le, most))

-- what is taken up to the end of a part, which has as many as it may have or ends with the list
pub part_on : {A : Type 0} (xs : List A) (from to most : ℕ) → from ≤ to → to ≡ min (length xs) most → take most xs ≡ take from xs ++ take (to - from) (drop from xs)
part_on xs from to most le is =
    let end : min most (length xs) ≡ from + (to - from) = omega (arith, is, le) in
    sym (take_min most xs) ∙ (ap (λ (n : ℕ). take n xs) end ∙ take-add from (to - from) xs)

-- and where the part was written anew
pub part_anew : {A : Type 0} (xs ys rest : List A) (from to most : ℕ) → from ≤ to → to ≡ min (length xs) most → length ys ≡ to - from → length (take from xs ++ (ys ++ rest)) ≡ length xs → take most (take from xs ++ (ys ++ rest)) ≡ take from xs ++ ys
part_anew xs ys rest from to most le is long same =
    let front : length (take from xs) ≡ from = length-take-le from xs (omega (arith, is, le)) in
    let all : length (take from xs ++ ys) ≡ to = length-append (take from xs) ys ∙ (omega (arith, front, long, le)) in
    let whole = take from xs ++ (ys ++ rest) in
    let end : min most (length whole) ≡ to = omega (arith, is, same) in
    sym (take_min most whole) ∙ (ap (λ (n : ℕ). take n whole) end ∙ (ap (λ (l : List _). take to l) (sym (append_assoc (take from xs) ys rest)) ∙ (take-append-le to (take from xs ++ ys) rest (omega (arith, all)) ∙ take_all to (take from xs ++ ys) (omega (arith, all)))))

-- which is as long as before
pub long_anew : {A : Type 0} (xs ys : List A) (from many : ℕ) → from + many ≤ length xs → length ys ≡ many → length (take from xs ++ (ys ++ drop many (drop from xs))) ≡ length xs
long_anew xs ys from many le long =
    let front = length-take-le from xs (omega (arith, le)) in
    let rest = length-drop from xs in
    let behind = length-drop many (drop from xs) in
    let part = length-append ys (drop many (drop from xs)) in
    length-append (take from xs) (ys ++ drop many (drop from xs)) ∙ omega (arith, front, rest, behind, part, long, le)
