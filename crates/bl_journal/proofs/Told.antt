-- Records, as they are read and written.
use Rattle.std.proofs.Common.{◌≡◌, ℕ, ◌+◌, ◌-◌, ◌*◌, ◌/◌, ◌%◌, ◌^◌, ◌<◌, ◌≤◌, List, [], ◌∷◌, ◌++◌, length, take, drop, sum, refl, sym, ◌∙◌, ap, subst, arith, append_assoc, length-append, length-take, take-append-drop, slice_index_or}
use Rattle.std.specs.Prelude.{flat_map}
use Rattle.std.proofs.lemmas.List.{append-nil, drop_at, take_all}
use Rattle.std.proofs.lemmas.Grind.{flat_map-append}
use Rattle.bl_journal.specs.Records.{Begins, Tells, came_in, went_in}
use Rattle.bl_journal.specs.Parts.{TellsRows}

-- The words are records that tell these rows, and then the rest.
pub record HasRead (salt : ℕ) (words rest : List ℕ) (came went : List (ℕ × ℕ)) : Type 0 where
  pub bodies : List (List ℕ)
  pub came_are : came ≡ flat_map came_in bodies
  pub went_are : went ≡ flat_map went_in bodies
  pub short : length rest ≤ length words
  pub tells : (others : List (List ℕ)) → Tells salt rest others → Tells salt words (bodies ++ others)

-- words that a record is read from
pub reads : (salt : ℕ) (words : List ℕ) → 4 ≤ length words → slice_index_or words 3 0 ≡ salt → 4 < slice_index_or words 0 0 → slice_index_or words 0 0 - 4 ≤ length words - 4
    → (let body = take (slice_index_or words 0 0 - 4) (take (length words - 4) (drop 4 words)) in
    slice_index_or words 0 0 + salt + sum body + slice_index_or words 1 0 + 2 ^ 64 * slice_index_or words 2 0 + 1 ≡ 2 ^ 128 → (x : List ℕ) × Begins salt words body x)
reads salt [] long salted some fits completes = absurd (omega arith)
reads salt (n ∷ []) long salted some fits completes = absurd (omega arith)
reads salt (n ∷ low ∷ []) long salted some fits completes = absurd (omega arith)
reads salt (n ∷ low ∷ high ∷ []) long salted some fits completes = absurd (omega arith)
reads salt (n ∷ low ∷ high ∷ s ∷ rest) long salted some fits completes =
    let all : take (length (n ∷ low ∷ high ∷ s ∷ rest) - 4) rest ≡ rest = take_all (length (n ∷ low ∷ high ∷ s ∷ rest) - 4) rest (omega arith) in
    let body : List ℕ = take (n - 4) (take (length (n ∷ low ∷ high ∷ s ∷ rest) - 4) rest) in
    let is_body : body ≡ take (n - 4) rest = ap (λ (l : List ℕ). take (n - 4) l) all in
    let size : length body ≡ n - 4 = ap length is_body ∙ omega (arith, length-take (n - 4) rest) in
    let count : n ≡ 4 + length body = omega arith in
    let whole : rest ≡ body ++ drop (n - 4) rest = sym (take-append-drop (n - 4) rest) ∙ ap (λ (l : List ℕ). l ++ drop (n - 4) rest) (sym is_body) in (
      drop (n - 4) rest,
      record {
        low = low;
        high = high;
        words_are = ap (λ (l : List ℕ). n ∷ low ∷ high ∷ s ∷ l) whole ∙ ap (λ (m : ℕ). m ∷ low ∷ high ∷ s ∷ (body ++ drop (n - 4) rest)) count
            ∙ ap (λ (z : ℕ). (4 + length body) ∷ low ∷ high ∷ z ∷ (body ++ drop (n - 4) rest)) salted;
        some = omega arith;
        completes = omega arith;
      },
    )

-- words that a record is written as
pub writes : (salt : ℕ) (words body : List ℕ) (count wanting : ℕ) → words ≡ count ∷ (wanting % 2 ^ 64) ∷ (wanting / 2 ^ 64) ∷ salt ∷ body → count ≡ 4 + length body → 0 < length body
    → count + salt + sum body + wanting + 1 ≡ 2 ^ 128 → Begins salt words body []
writes salt words body count wanting is size some completes = record {
  low = wanting % 2 ^ 64;
  high = wanting / 2 ^ 64;
  words_are = is ∙ ap (λ (n : ℕ). n ∷ (wanting % 2 ^ 64) ∷ (wanting / 2 ^ 64) ∷ salt ∷ body) size
      ∙ ap (λ (l : List ℕ). (4 + length body) ∷ (wanting % 2 ^ 64) ∷ (wanting / 2 ^ 64) ∷ salt ∷ l) (sym (append-nil body));
  some = some;
  completes = omega arith;
}

pub begins_long : (salt : ℕ) (words body rest : List ℕ) → Begins salt words body rest → length body + 4 + length rest ≡ length words
begins_long salt words body rest begins = omega (arith, ap length begins.words_are, length-append body rest)

pub begins_rest : (salt : ℕ) (words body rest : List ℕ) → Begins salt words body rest → drop (length body + 4) words ≡ rest
begins_rest salt words body rest begins =
    ap (λ (l : List ℕ). drop (length body + 4) l) begins.words_are
    ∙ drop_at ((4 + length body) ∷ begins.low ∷ begins.high ∷ salt ∷ body) rest (length body + 4) (omega arith)

pub read_one : (salt : ℕ) (words rest body after : List ℕ) (came went : List (ℕ × ℕ)) → HasRead salt words rest came went → Begins salt rest body after
    → HasRead salt words after (came ++ came_in body) (went ++ went_in body)
read_one salt words rest body after came went so_far begins = record {
  bodies = so_far.bodies ++ body ∷ [];
  came_are = ap (λ (l : List (ℕ × ℕ)). l ++ came_in body) so_far.came_are ∙ ap (λ (l : List (ℕ × ℕ)). flat_map came_in so_far.bodies ++ l) (sym (append-nil (came_in body))) ∙ sym (flat_map-append came_in so_far.bodies (body ∷ []));
  went_are = ap (λ (l : List (ℕ × ℕ)). l ++ went_in body) so_far.went_are ∙ ap (λ (l : List (ℕ × ℕ)). flat_map went_in so_far.bodies ++ l) (sym (append-nil (went_in body))) ∙ sym (flat_map-append went_in so_far.bodies (body ∷ []));
  short = omega (arith, so_far.short, begins_long salt rest body after begins);
  tells = λ others tells.
      subst (λ (l : List (List ℕ)). Tells salt words l) (sym (append_assoc so_far.bodies (body ∷ []) others)) (so_far.tells (body ∷ others) (after, begins, tells));
}

pub read_all : (salt : ℕ) (words rest : List ℕ) (came went : List (ℕ × ℕ)) → HasRead salt words rest came went → Tells salt rest [] → TellsRows salt words came went
read_all salt words rest came went so_far none = record {
  bodies = so_far.bodies;
  tells = subst (λ (l : List (List ℕ)). Tells salt words l) (append-nil so_far.bodies) (so_far.tells [] none);
  came_are = so_far.came_are;
  went_are = so_far.went_are;
}

-- two words, and the others behind them
pub two_and_others : (words : List ℕ) → 2 ≤ length words → words ≡ slice_index_or words 0 0 ∷ slice_index_or words 1 0 ∷ take (length words - 2) (drop 2 words)
two_and_others [] long = absurd (omega arith)
two_and_others (a ∷ []) long = absurd (omega arith)
two_and_others (a ∷ b ∷ rest) long = ap (λ (l : List ℕ). a ∷ b ∷ l) (sym (take_all (length (a ∷ b ∷ rest) - 2) rest (omega arith)))
