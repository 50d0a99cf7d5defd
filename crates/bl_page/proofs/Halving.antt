-- Places of keys in pairs that rise, and these pairs in words.
use Rattle.std.proofs.Common.{◌≡◌, ◌≢◌, ℕ, zero, suc, ◌+◌, ◌*◌, ◌-◌, ◌%◌, ◌<◌, ◌≤◌, ◌⊎◌, List, [], ◌∷◌, length, get_or, drop, Option, Some, None, true, false, refl, ap, sym, ◌∙◌, inl, inr, arith}
use Rattle.std.specs.Prelude.{nat_lt}
use Rattle.std.proofs.lemmas.Bool.{cases_lt}
use Rattle.std.proofs.lemmas.List.{get_or-drop, length-drop}
use Rattle.bl_model.specs.Rows.{map_of}
use Rattle.bl_page.specs.Pairs.{RisesFrom, place}
use Rattle.bl_page.specs.Faults.{pairs_in, count_in, pairs_of, HasPairs}
use Rattle.bl_page.proofs.Lookups.{map_of_below, place-le}
use Rattle.bl_page.proofs.Spelled.{length-pairs_in}

abbrev pub key_at : List (ℕ × ℕ) → ℕ → ℕ
key_at pairs i = (get_or pairs i (0, 0)).0

abbrev pub word_at : List (ℕ × ℕ) → ℕ → ℕ
word_at pairs i = (get_or pairs i (0, 0)).1

-- a pair whose key is above stands behind the place
pub place-below : (k i : ℕ) (pairs : List (ℕ × ℕ)) → i < length pairs → k < key_at pairs i → place k pairs ≤ i
place-below k i [] few above = absurd (omega arith)
place-below k zero (pair ∷ pairs) few above = grind (arith, above)
place-below k (suc i) (pair ∷ pairs) few above = let more = place-below k i pairs (omega arith) above in grind (arith, more)

pub key-least : (least i : ℕ) (pairs : List (ℕ × ℕ)) → RisesFrom least pairs → i < length pairs → least ≤ key_at pairs i
key-least least i [] h few = absurd (omega arith)
key-least least zero (pair ∷ pairs) h few = h.0
key-least least (suc i) (pair ∷ pairs) h few = let more = key-least (pair.0 + 1) i pairs h.1 (omega arith) in let first : least ≤ pair.0 = h.0 in omega (arith, more, first)

-- a pair whose key is at or below stands before it
pub place-above : (least k i : ℕ) (pairs : List (ℕ × ℕ)) → RisesFrom least pairs → i < length pairs → key_at pairs i ≤ k → i < place k pairs
place-above least k i [] h few below = absurd (omega arith)
place-above least k zero (pair ∷ pairs) h few below = let e : nat_lt k pair.0 ≡ false = grind (arith, below) in grind (arith, e)
place-above least k (suc i) (pair ∷ pairs) h few below =
    let first = key-least (pair.0 + 1) i pairs h.1 (omega arith) in
    let more = place-above (pair.0 + 1) k i pairs h.1 (omega arith) below in
    let reached : pair.0 ≤ k = omega (arith, first, below) in
    let e : nat_lt k pair.0 ≡ false = grind (arith, reached) in
    grind (arith, e, more)

-- what stands with a key
pub listed-at : (least k i : ℕ) (pairs : List (ℕ × ℕ)) → RisesFrom least pairs → i < length pairs → key_at pairs i ≡ k → map_of pairs k ≡ Some (word_at pairs i)
listed-at least k i [] h few is = absurd (omega arith)
listed-at least k zero (pair ∷ pairs) h few is = grind (arith, is)
listed-at least k (suc i) (pair ∷ pairs) h few is =
    let first = key-least (pair.0 + 1) i pairs h.1 (omega arith) in
    let more = listed-at (pair.0 + 1) k i pairs h.1 (omega arith) is in
    let other : pair.0 < k = omega (arith, first, is) in
    grind (arith, more, other)

pub place-none : (least k : ℕ) (pairs : List (ℕ × ℕ)) → RisesFrom least pairs → k < least → place k pairs ≡ 0
place-none least k [] h below = refl
place-none least k (pair ∷ pairs) h below = let first : least ≤ pair.0 = h.0 in let e : nat_lt k pair.0 ≡ true = grind (arith, first, below) in grind (arith, e)

-- a key that is listed stands before its place
pub listed-before : (least k c : ℕ) (pairs : List (ℕ × ℕ)) → RisesFrom least pairs → map_of pairs k ≡ Some c → (0 < place k pairs) × (key_at pairs (place k pairs - 1) ≡ k)
listed-before least k c [] h listed = absurd cc
listed-before least k c (pair ∷ pairs) h listed = elim (cases_lt k pair.0) [
  | inl below ↦ let none = map_of_below pair.0 k (pair ∷ pairs) (omega arith, h.1) below in absurd (cc)
  | inr reached ↦
      let e : nat_lt k pair.0 ≡ false = grind (arith, reached) in
      let at : place k (pair ∷ pairs) ≡ place k pairs + 1 = grind (arith, e) in
      elim (cases_lt pair.0 k) [
        | inl more ↦
            let rest : map_of pairs k ≡ Some c = grind (arith, listed, more) in
            let later = listed-before (pair.0 + 1) k c pairs h.1 rest in
            let one : place k (pair ∷ pairs) - 1 ≡ suc (place k pairs - 1) = omega (arith, at, later.0) in
            (omega (arith, at), ap (λ i. key_at (pair ∷ pairs) i) one ∙ later.1)
        | inr same ↦
            let is : pair.0 ≡ k = omega (arith, reached, same) in
            let none = place-none (pair.0 + 1) k pairs h.1 (omega (arith, is)) in
            let one : place k (pair ∷ pairs) - 1 ≡ 0 = omega (arith, at, none) in
            (omega (arith, at), ap (λ i. key_at (pair ∷ pairs) i) one ∙ is)
      ]
]

-- a key that is not the one before its place is not listed
pub unlisted : (least k : ℕ) (pairs : List (ℕ × ℕ)) → RisesFrom least pairs → (0 < place k pairs → key_at pairs (place k pairs - 1) ≢ k) → map_of pairs k ≡ None
unlisted least k pairs h other = either (map_of pairs k) refl
  where
    either : (found : Option ℕ) → map_of pairs k ≡ found → map_of pairs k ≡ None
    either None is = is
    either (Some c) is = let at = listed-before least k c pairs h is in absurd (other at.0 at.1)

-- the pairs in words
pairs_in-at : (n i : ℕ) (words : List ℕ) → 2 * n ≤ length words → i < n → get_or (pairs_in n words) i (0, 0) ≡ (get_or words (2 * i) 0, get_or words (suc (2 * i)) 0)
pairs_in-at zero i words long lt = absurd (omega arith)
pairs_in-at (suc n) i [] long lt = absurd (omega arith)
pairs_in-at (suc n) i (key ∷ []) long lt = absurd (omega arith)
pairs_in-at (suc n) zero (key ∷ word ∷ words) long lt = refl
pairs_in-at (suc n) (suc i) (key ∷ word ∷ words) long lt =
    let e : 2 * suc i ≡ suc (suc (2 * i)) = omega arith in
    pairs_in-at n i words (omega arith) (omega arith) ∙ ap (λ j. (get_or (key ∷ word ∷ words) j 0, get_or (key ∷ word ∷ words) (suc j) 0)) (sym e)

pub pairs-at : (n i : ℕ) (words : List ℕ) → length words ≡ 32 → n ≤ 14 → i < n → get_or (pairs_in n (drop 4 words)) i (0, 0) ≡ (get_or words (4 + 2 * i) 0, get_or words (5 + 2 * i) 0)
pairs-at n i words long few lt =
    let room : 2 * n ≤ length (drop 4 words) = omega (arith, length-drop 4 words) in
    let second : 4 + suc (2 * i) ≡ 5 + 2 * i = omega arith in
    pairs_in-at n i (drop 4 words) room lt ∙ ap (λ key. (key, get_or (drop 4 words) (suc (2 * i)) 0)) (get_or-drop 4 words (2 * i) 0)
    ∙ ap (λ word. (get_or words (4 + 2 * i) 0, word)) (get_or-drop 4 words (suc (2 * i)) 0 ∙ ap (λ j. get_or words j 0) second)

pub pairs-length : (n : ℕ) (words : List ℕ) → length words ≡ 32 → n ≤ 14 → length (pairs_in n (drop 4 words)) ≡ n
pairs-length n words long few = length-pairs_in n (drop 4 words) (omega (arith, length-drop 4 words))

-- the pair before a place
pub pair-before : (words : List ℕ) (n p : ℕ) → length words ≡ 32 → n ≤ 14 → 0 < p → p ≤ n
    → (key_at (pairs_in n (drop 4 words)) (p - 1) ≡ get_or words (2 + 2 * p) 0) × (word_at (pairs_in n (drop 4 words)) (p - 1) ≡ get_or words (3 + 2 * p) 0)
pair-before words n p long few some within =
    let at = pairs-at n (p - 1) words long few (omega (arith, some, within)) in
    let key : 4 + 2 * (p - 1) ≡ 2 + 2 * p = omega (arith, some) in
    let word : 5 + 2 * (p - 1) ≡ 3 + 2 * p = omega (arith, some) in
    (ap (λ pair. pair.0) at ∙ ap (λ j. get_or words j 0) key, ap (λ pair. pair.1) at ∙ ap (λ j. get_or words j 0) word)

-- only the first key may be 0
key-later : (least i : ℕ) (pairs : List (ℕ × ℕ)) → RisesFrom least pairs → suc i < length pairs → 1 ≤ key_at pairs (suc i)
key-later least i [] h few = absurd (omega arith)
key-later least i (pair ∷ pairs) h few = let more = key-least (pair.0 + 1) i pairs h.1 (omega arith) in omega (arith, more)

key_of : (words : List ℕ) (which : ℕ) → length words ≡ 32 → HasPairs words → 1 ≤ which → which ≤ count_in words → key_at (pairs_of words) (which - 1) ≡ get_or words (2 + 2 * which) 0
key_of words which long has some within =
    let key : 4 + 2 * (which - 1) ≡ 2 + 2 * which = omega (arith, some) in
    ap (λ pair. pair.0) (pairs-at (count_in words) (which - 1) words long has.few (omega (arith, some, within))) ∙ ap (λ j. get_or words j 0) key

pub at-or-below : (key which : ℕ) (words : List ℕ) → length words ≡ 32 → HasPairs words → 1 ≤ which → which ≤ count_in words → get_or words (2 + 2 * which) 0 ≤ key → which ≤ place key (pairs_of words)
at-or-below key which words long has some within reached =
    let there = key_of words which long has some within in
    let size = pairs-length (count_in words) words long has.few in
    let past = place-above 0 key (which - 1) (pairs_of words) has.rises (omega (arith, size, some, within)) (omega (arith, there, reached)) in
    omega (arith, past, some)

pub above : (key which : ℕ) (words : List ℕ) → length words ≡ 32 → HasPairs words → 1 ≤ which → which ≤ count_in words → key < get_or words (2 + 2 * which) 0 → place key (pairs_of words) < which
above key which words long has some within over =
    let there = key_of words which long has some within in
    let size = pairs-length (count_in words) words long has.few in
    let most = place-below key (which - 1) (pairs_of words) (omega (arith, size, some, within)) (omega (arith, there, over)) in
    omega (arith, most, some)

pub behind : (key which : ℕ) (words : List ℕ) → length words ≡ 32 → HasPairs words → count_in words < which → place key (pairs_of words) < which
behind key which words long has past = let size = pairs-length (count_in words) words long has.few in omega (arith, place-le key (pairs_of words), size, past)

pub some_later : (which : ℕ) (words : List ℕ) → length words ≡ 32 → HasPairs words → 2 ≤ which → which ≤ count_in words → 1 ≤ get_or words (2 + 2 * which) 0
some_later which words long has second within =
    let there = key_of words which long has (omega (arith, second)) within in
    let size = pairs-length (count_in words) words long has.few in
    let one : which - 1 ≡ suc (which - 2) = omega (arith, second) in
    let later = key-later 0 (which - 2) (pairs_of words) has.rises (omega (arith, size, second, within)) in
    let same = ap (λ i. key_at (pairs_of words) i) one in
    omega (arith, later, same, there)

pub zero_behind : (which : ℕ) (words : List ℕ) → HasPairs words → count_in words < which → which ≤ 14 → get_or words (2 + 2 * which) 0 ≡ 0
zero_behind which words has past within = has.rest (2 + 2 * which) (omega (arith, past)) (omega (arith, within))

-- one less, where a number that is not 0 stands; the greatest number, where 0 stands
pub one_less_some : (word : ℕ) → 1 ≤ word → word < 18446744073709551616 → (word + 18446744073709551615) % 18446744073709551616 ≡ word - 1
one_less_some word some fits = omega (arith, some, fits)

pub one_less_none : (word : ℕ) → word ≡ 0 → (word + 18446744073709551615) % 18446744073709551616 ≡ 18446744073709551615
one_less_none word none = omega (arith, none)

-- so a later key is at or below a key where one less is below it
pub below_tells : (key which word : ℕ) (words : List ℕ) → length words ≡ 32 → HasPairs words → 2 ≤ which → which ≤ 14 → key < 18446744073709551616 → word < 18446744073709551616
    → word ≡ get_or words (2 + 2 * which) 0 → (word + 18446744073709551615) % 18446744073709551616 < key → which ≤ place key (pairs_of words)
below_tells key which word words long has second within small fits is tells = elim (cases_lt (count_in words) which) [
  | inl past ↦ let none = zero_behind which words has past within in let most = one_less_none word (is ∙ none) in absurd (omega (arith, most, tells, small))
  | inr there ↦
      let some = some_later which words long has second there in
      let less = one_less_some word (omega (arith, some, is)) fits in
      at-or-below key which words long has (omega (arith, second)) there (omega (arith, less, tells, is, some))
]

pub not_below_tells : (key which word : ℕ) (words : List ℕ) → length words ≡ 32 → HasPairs words → 2 ≤ which → word < 18446744073709551616
    → word ≡ get_or words (2 + 2 * which) 0 → key ≤ (word + 18446744073709551615) % 18446744073709551616 → place key (pairs_of words) < which
not_below_tells key which word words long has second fits is tells = elim (cases_lt (count_in words) which) [
  | inl past ↦ behind key which words long has past
  | inr there ↦
      let some = some_later which words long has second there in
      let less = one_less_some word (omega (arith, some, is)) fits in
      above key which words long has (omega (arith, second)) there (omega (arith, less, tells, is, some))
]

-- at most the first key is at or below 0
pub first_alone : (key : ℕ) (words : List ℕ) → length words ≡ 32 → HasPairs words → key ≤ 0 → place key (pairs_of words) < 2
first_alone key words long has none = elim (cases_lt (count_in words) 2) [
  | inl past ↦ behind key 2 words long has past
  | inr there ↦ let some = some_later 2 words long has (omega arith) there in above key 2 words long has (omega arith) there (omega (arith, some, none))
]

-- a number is 1 up to a place, and 0 behind it
abbrev pub IsReached : ℕ → ℕ → ℕ → Type 0
IsReached which place number = (which ≤ place → number ≡ 1) × (place < which → number ≡ 0)

-- what was found of a key, told of the place in the words as they stood
pub is_reached : (which place other number : ℕ) → place ≡ other → (which ≤ other → number ≡ 1) → (other < which → number ≡ 0) → IsReached which place number
is_reached which place other number same one none = ((λ h. one (omega (arith, h, same))), λ h. none (omega (arith, h, same)))

reached-either : (which place number : ℕ) → IsReached which place number → ((which ≤ place) × (number ≡ 1)) ⊎ ((place < which) × (number ≡ 0))
reached-either which place number is = elim (cases_lt place which) [
  | inl past ↦ inr (past, is.1 past)
  | inr there ↦ inl (there, is.0 there)
]

-- three numbers tell the part of a page where a place is
pub third_of : (p a b c : ℕ) → p ≤ 14 → IsReached 4 p a → IsReached 8 p b → IsReached 11 p c
    → (4 * a + 4 * b + 3 * c ≤ p) × (p ≤ 4 * a + 4 * b + 3 * c + 3) × (4 * a + 4 * b + 3 * c ≤ 11)
third_of p a b c few first second third =
    let x = reached-either 4 p a first in
    let y = reached-either 8 p b second in
    let z = reached-either 11 p c third in
    elim x [
      | inl x ↦ elim y [
        | inl y ↦ elim z [
          | inl z ↦ (omega (arith, x.1, y.1, z.1, z.0), omega (arith, x.1, y.1, z.1, few), omega (arith, x.1, y.1, z.1))
          | inr z ↦ (omega (arith, x.1, y.1, z.1, y.0), omega (arith, x.1, y.1, z.1, z.0), omega (arith, x.1, y.1, z.1))
        ]
        | inr y ↦ let z' : c ≡ 0 = third.1 (omega (arith, y.0)) in (omega (arith, x.1, y.1, z', x.0), omega (arith, x.1, y.1, z', y.0), omega (arith, x.1, y.1, z'))
      ]
      | inr x ↦
          let y' : b ≡ 0 = second.1 (omega (arith, x.0)) in
          let z' : c ≡ 0 = third.1 (omega (arith, x.0)) in
          (omega (arith, x.1, y', z'), omega (arith, x.1, y', z', x.0), omega (arith, x.1, y', z'))
    ]

-- and three more the place in that part
pub place_of_third : (p before a b c : ℕ) → before ≤ p → p ≤ before + 3 → IsReached (before + 1) p a → IsReached (before + 2) p b → IsReached (before + 3) p c → before + a + b + c ≡ p
place_of_third p before a b c low high first second third =
    elim (reached-either (before + 1) p a first) [
      | inl x ↦ elim (reached-either (before + 2) p b second) [
        | inl y ↦ elim (reached-either (before + 3) p c third) [
          | inl z ↦ omega (arith, x.1, y.1, z.1, z.0, high)
          | inr z ↦ omega (arith, x.1, y.1, z.1, z.0, y.0)
        ]
        | inr y ↦ let z' : c ≡ 0 = third.1 (omega (arith, y.0)) in omega (arith, x.1, y.1, z', x.0, y.0)
      ]
      | inr x ↦
          let y' : b ≡ 0 = second.1 (omega (arith, x.0)) in
          let z' : c ≡ 0 = third.1 (omega (arith, x.0)) in
          omega (arith, x.1, y', z', x.0, low)
    ]
