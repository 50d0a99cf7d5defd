-- What is left of a record that a crash has cut short is no record, unless it is whole.
use Rattle.std.proofs.Common.{◌≡◌, ℕ, ◌+◌, ◌*◌, ◌^◌, ◌≤◌, List, [], ◌∷◌, ◌++◌, length, refl, sym, ◌∙◌, ap, subst, arith}
use Rattle.std.specs.List.{sum}
use Rattle.std.proofs.lemmas.List.Sums.{sum_by-cons}
use Rattle.std.proofs.lemmas.List.{append-nil}
use Rattle.bl_journal.proofs.Spelling.{AreAtMost}
use Rattle.bl_journal.specs.Records.{Begins}

pub sum-cons : (x : ℕ) (xs : List ℕ) → sum (x ∷ xs) ≡ x + sum xs
sum-cons x xs = sum_by-cons (λ (n : ℕ). n) x xs

-- a smaller sum, where each word is at most the other
pub sum_at_most : (some words : List ℕ) → AreAtMost some words → sum some ≤ sum words
sum_at_most [] [] each = omega arith
sum_at_most [] (w ∷ words) each = absurd each
sum_at_most (s ∷ some) [] each = absurd each
sum_at_most (s ∷ some) (w ∷ words) each =
    let first : s ≤ w = each.0 in
    let rest = sum_at_most some words each.1 in
    omega (arith, sum-cons s some, sum-cons w words)

-- and where the sums are the same, so are the words
pub same_where_sum : (some words : List ℕ) → AreAtMost some words → sum some ≡ sum words → some ≡ words
same_where_sum [] [] each same = refl
same_where_sum [] (w ∷ words) each same = absurd each
same_where_sum (s ∷ some) [] each same = absurd each
same_where_sum (s ∷ some) (w ∷ words) each same =
    let first : s ≤ w = each.0 in
    let below = sum_at_most some words each.1 in
    let is_first : s ≡ w = omega (arith, sum-cons s some, sum-cons w words) in
    let is_rest : sum some ≡ sum words = omega (arith, sum-cons s some, sum-cons w words) in
    let rest = same_where_sum some words each.1 is_rest in
    cc

pub length_at_most : (some words : List ℕ) → AreAtMost some words → length some ≡ length words
length_at_most [] [] each = refl
length_at_most [] (w ∷ words) each = absurd each
length_at_most (s ∷ some) [] each = absurd each
length_at_most (s ∷ some) (w ∷ words) each = let rest = length_at_most some words each.1 in omega arith

-- a front of the words has at most their sum
pub sum_front : (front rest words zeros : List ℕ) → front ++ rest ≡ words ++ zeros → length front ≤ length words → sum front ≤ sum words
sum_front [] rest words zeros is short = omega arith
sum_front (f ∷ front) rest [] zeros is short = absurd (omega arith)
sum_front (f ∷ front) rest (w ∷ words) zeros is short =
    let first : f ≡ w = cc in
    let others : front ++ rest ≡ words ++ zeros = cc in
    let below = sum_front front rest words zeros others (omega arith) in
    omega (arith, sum-cons f front, sum-cons w words)

torn_words : (salt low high : ℕ) (body some zeros body' rest' : List ℕ)
    → 4 + length body + salt + sum body + low + 2 ^ 64 * high + 1 ≡ 2 ^ 128
    → AreAtMost some ((4 + length body) ∷ low ∷ high ∷ salt ∷ body) → Begins salt (some ++ zeros) body' rest' → some ≡ (4 + length body) ∷ low ∷ high ∷ salt ∷ body
torn_words salt low high body [] zeros body' rest' completes each begins = absurd each
torn_words salt low high body (n ∷ []) zeros body' rest' completes each begins = absurd each.1
torn_words salt low high body (n ∷ l ∷ []) zeros body' rest' completes each begins = absurd each.1.1
torn_words salt low high body (n ∷ l ∷ h ∷ []) zeros body' rest' completes each begins = absurd each.1.1.1
torn_words salt low high body (n ∷ l ∷ h ∷ s ∷ b) zeros body' rest' completes each begins =
    let head : n ∷ l ∷ h ∷ s ∷ (b ++ zeros) ≡ (4 + length body') ∷ begins.low ∷ begins.high ∷ salt ∷ (body' ++ rest') = begins.words_are in
    let is_n : n ≡ 4 + length body' = cc in
    let is_l : l ≡ begins.low = cc in
    let is_h : h ≡ begins.high = cc in
    let is_s : s ≡ salt = cc in
    let is_rest : body' ++ rest' ≡ b ++ zeros = cc in
    let at_n : n ≤ 4 + length body = each.0 in
    let at_l : l ≤ low = each.1.0 in
    let at_h : h ≤ high = each.1.1.0 in
    let at_b : AreAtMost b body = each.1.1.1.1 in
    let long = length_at_most b body at_b in
    let below = sum_front body' rest' b zeros is_rest (omega arith) in
    let bound = sum_at_most b body at_b in
    let theirs = begins.completes in
    let same_n : n ≡ 4 + length body = omega arith in
    let same_l : l ≡ low = omega arith in
    let same_h : h ≡ high = omega arith in
    let same_sum : sum b ≡ sum body = omega arith in
    let same_b = same_where_sum b body at_b same_sum in
    cc

-- what is left of a record, and begins with one, is the record
pub torn_is_whole : (salt : ℕ) (body words some zeros body' rest' : List ℕ) → Begins salt words body [] → AreAtMost some words → Begins salt (some ++ zeros) body' rest' → some ≡ words
torn_is_whole salt body words some zeros body' rest' record_is each begins =
    let is : words ≡ (4 + length body) ∷ record_is.low ∷ record_is.high ∷ salt ∷ body =
    record_is.words_are ∙ ap (λ (l : List ℕ). (4 + length body) ∷ record_is.low ∷ record_is.high ∷ salt ∷ l) (append-nil body) in
    torn_words salt record_is.low record_is.high body some zeros body' rest' record_is.completes (subst (λ (l : List ℕ). AreAtMost some l) is each) begins ∙ sym is
