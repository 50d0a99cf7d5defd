-- The text of a line of a script has no LF and at most 69 bytes, and two lines are cut at the same place.
use Rattle.std.proofs.Common.{◌≡◌, ◌≢◌, ℕ, ◌<◌, ◌≤◌, ◌^◌, ◌==◌, ◌&&◌, List, [], ◌∷◌, ◌++◌, length, get_or, true, refl, ap, sym, ◌∙◌, length-append, decimal, codes, arith}
use Rattle.std.specs.Prelude.{Bool, not, drop}
use Rattle.std.proofs.Math.Seq.{get_or-append_seam}
use Rattle.std.proofs.lemmas.Bool.Decides.{nat_tests}
use Rattle.std.proofs.lemmas.Fmt.{digits_decimal, length-decimal-le}
use Rattle.std.proofs.lemmas.List.{get_or_append_left}
use Rattle.std.proofs.lemmas.List.Elements.{All-nil, All-cons, All-head, All-tail, All-append, All-from_get_or, All-get_or}
use Rattle.std.proofs.lemmas.Str.Parse.{not_in_digits}
use Rattle.bl_serve_lines.proofs.Numbers.{own}
use Rattle.bl_serve_lines.specs.Lines.{HasNoLf}
use Rattle.bl_replay_script.specs.Commands.{one, two, three}

pub record IsPlain (text : List ℕ) : Type 0 where
  pub cut : HasNoLf text
  pub short : length text ≤ 69

abbrev pub is_free : List ℕ → Bool
is_free [] = true
is_free (b ∷ bytes) = not (b == 10) && is_free bytes

free_no_lf : (bytes : List ℕ) → is_free bytes ≡ true → HasNoLf bytes
free_no_lf [] h = All-nil (λ b. b ≢ 10)
free_no_lf (b ∷ bytes) h = All-cons (λ b. b ≢ 10) b bytes (λ e. grind (arith, nat_tests)) (free_no_lf bytes (grind (arith, nat_tests)))

number_no_lf : (a : ℕ) → a < 2 ^ 64 → HasNoLf (one a)
number_no_lf a small = All-from_get_or (λ b. b ≢ 10) (decimal a) 0 (λ i lt. not_in_digits own (decimal a) 10 (digits_decimal own a small) (λ r. omega (arith, r.0)) i lt)

number_short : (a : ℕ) → a < 2 ^ 64 → length (one a) ≤ 20
number_short a small = length-decimal-le 20 a (omega arith) (omega arith) small

pub plain_word : (word : List ℕ) → is_free word ≡ true → length word ≤ 63 → IsPlain word
plain_word word free few = record { cut = free_no_lf word free; short = omega (arith, few) }

pub plain_one : (word : List ℕ) (a : ℕ) → is_free word ≡ true → length word ≤ 23 → a < 2 ^ 64 → IsPlain (word ++ one a)
plain_one word a free few small = record {
  cut = All-append (λ b. b ≢ 10) word (one a) (free_no_lf word free) (number_no_lf a small);
  short = let n = number_short a small in let size = length-append word (one a) in omega (arith, few, n, size);
}

two_no_lf : (a b : ℕ) → a < 2 ^ 64 → b < 2 ^ 64 → HasNoLf (two a b)
two_no_lf a b small small_b = All-append (λ b. b ≢ 10) (decimal a ++ codes " ") (decimal b) (All-append (λ b. b ≢ 10) (decimal a) (codes " ") (number_no_lf a small) (free_no_lf (codes " ") refl)) (number_no_lf b small_b)

two_short : (a b : ℕ) → a < 2 ^ 64 → b < 2 ^ 64 → length (two a b) ≤ 41
two_short a b small small_b = let n = number_short a small in let m = number_short b small_b in
    let first = length-append (decimal a) (codes " ") in let all = length-append (decimal a ++ codes " ") (decimal b) in let space : length (codes " ") ≡ 1 = refl in omega (arith, n, m, first, all, space)

pub plain_two : (word : List ℕ) (a b : ℕ) → is_free word ≡ true → length word ≤ 23 → a < 2 ^ 64 → b < 2 ^ 64 → IsPlain (word ++ two a b)
plain_two word a b free few small small_b = record {
  cut = All-append (λ b. b ≢ 10) word (two a b) (free_no_lf word free) (two_no_lf a b small small_b);
  short = let n = two_short a b small small_b in let size = length-append word (two a b) in omega (arith, few, n, size);
}

pub plain_three : (word : List ℕ) (a b d : ℕ) → is_free word ≡ true → length word ≤ 7 → a < 2 ^ 64 → b < 2 ^ 64 → d < 2 ^ 64 → IsPlain (word ++ three a b d)
plain_three word a b d free few small small_b small_d = record {
  cut = All-append (λ b. b ≢ 10) word (three a b d) (free_no_lf word free)
      (All-append (λ b. b ≢ 10) (two a b ++ codes " ") (decimal d) (All-append (λ b. b ≢ 10) (two a b) (codes " ") (two_no_lf a b small small_b) (free_no_lf (codes " ") refl)) (number_no_lf d small_d));
  short = let n = two_short a b small small_b in let m = number_short d small_d in let size = length-append word (three a b d) in
      let first = length-append (two a b) (codes " ") in let all = length-append (two a b ++ codes " ") (decimal d) in let space : length (codes " ") ≡ 1 = refl in omega (arith, few, n, m, size, first, all, space);
}

-- two texts without LF, each before an LF
pub cut_same : (a b x y : List ℕ) → HasNoLf a → HasNoLf b → a ++ 10 ∷ x ≡ b ++ 10 ∷ y → (a ≡ b) × (x ≡ y)
cut_same [] [] x y h k e = (refl, ap (drop 1) e)
cut_same [] (c ∷ b) x y h k e = absurd (All-head (λ b. b ≢ 10) c b k (sym (ap (λ t. get_or t 0 0) e)))
cut_same (c ∷ a) [] x y h k e = absurd (All-head (λ b. b ≢ 10) c a h (ap (λ t. get_or t 0 0) e))
cut_same (c ∷ a) (d ∷ b) x y h k e =
    let rest = cut_same a b x y (All-tail (λ b. b ≢ 10) c a h) (All-tail (λ b. b ≢ 10) d b k) (ap (drop 1) e) in
    let first : c ≡ d = ap (λ t. get_or t 0 0) e in
    (ap (λ z. z ∷ a) first ∙ ap (λ t. d ∷ t) rest.0, rest.1)

-- a text without LF that is longer than another cannot have an LF where the other ends
pub no_lf_there : (line rest text more : List ℕ) → HasNoLf line → length text < length line → line ++ rest ≡ text ++ 10 ∷ more → ⊥
no_lf_there line rest text more cut lt e = All-get_or (λ b. b ≢ 10) line (length text) 0 lt cut
    (sym (get_or_append_left line rest 0 (length text) lt) ∙ ap (λ t. get_or t (length text) 0) e ∙ get_or-append_seam text 10 more 0)
