-- Reading words in turn.
use Rattle.std.proofs.Common.{◌≡◌, ℕ, suc, ◌+◌, ◌*◌, ◌-◌, ◌<◌, List, [], ◌∷◌, ◌++◌, length, get_or, drop, Option, Some, None, ap, sym, ◌∙◌, append_assoc, arith}
use Rattle.std.proofs.lemmas.List.{drop_more}
use Rattle.bl_page.specs.Faults.{pairs_in}

-- the least key that may follow
abbrev pub least_after : Option ℕ → ℕ
least_after None = 0
least_after (Some key) = key + 1

-- the first pair of those that are left
pub pairs_in-first : (words : List ℕ) (n at : ℕ) → at + 1 < length words
    → pairs_in (suc n) (drop at words) ≡ (get_or words at 0, get_or words (at + 1) 0) ∷ pairs_in n (drop (at + 2) words)
pairs_in-first words n at within =
    let first = drop_more words at 0 (omega arith) in
    let second = drop_more words (at + 1) 0 within in
    let two : (at + 1) + 1 ≡ at + 2 = omega arith in
    ap (pairs_in (suc n)) (first ∙ ap (λ t. get_or words at 0 ∷ t) (second ∙ ap (λ k. get_or words (at + 1) 0 ∷ drop k words) two))

pub pairs_in-more : (words : List ℕ) (old new all : List (ℕ × ℕ)) (count i : ℕ) → i < count → 4 + 2 * i + 1 < length words
    → new ≡ old ++ (get_or words (4 + 2 * i) 0, get_or words (5 + 2 * i) 0) ∷ []
    → old ++ pairs_in (count - i) (drop (4 + 2 * i) words) ≡ all → new ++ pairs_in (count - (i + 1)) (drop (4 + 2 * (i + 1)) words) ≡ all
pairs_in-more words old new all count i more within is known =
    let left : count - i ≡ suc (count - (i + 1)) = omega arith in
    let second : 4 + 2 * i + 1 ≡ 5 + 2 * i = omega arith in
    let next : 4 + 2 * i + 2 ≡ 4 + 2 * (i + 1) = omega arith in
    let rest = pairs_in (count - (i + 1)) (drop (4 + 2 * (i + 1)) words) in
    let cut : pairs_in (count - i) (drop (4 + 2 * i) words) ≡ (get_or words (4 + 2 * i) 0, get_or words (5 + 2 * i) 0) ∷ rest =
    ap (λ n. pairs_in n (drop (4 + 2 * i) words)) left ∙ pairs_in-first words (count - (i + 1)) (4 + 2 * i) within
    ∙ ap (λ k. (get_or words (4 + 2 * i) 0, get_or words k 0) ∷ pairs_in (count - (i + 1)) (drop (4 + 2 * i + 2) words)) second
    ∙ ap (λ k. (get_or words (4 + 2 * i) 0, get_or words (5 + 2 * i) 0) ∷ pairs_in (count - (i + 1)) (drop k words)) next in
    ap (λ t. t ++ rest) is ∙ append_assoc old ((get_or words (4 + 2 * i) 0, get_or words (5 + 2 * i) 0) ∷ []) rest ∙ ap (λ t. old ++ t) (sym cut) ∙ known
