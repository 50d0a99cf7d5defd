-- A log that is written anew.
use Rattle.std.proofs.Common.{◌≡◌, inl, ℕ, ◌+◌, ◌*◌, List, [], ◌∷◌, ◌++◌, length, Option, refl, sym, ◌∙◌, ap, arith}
use Rattle.std.specs.Prelude.{replicate}
use Rattle.bl_image.specs.Images.{word_bytes}
use Rattle.bl_journal.specs.Records.{mark, body_words}
use Rattle.bl_journal.specs.Rows.{IsLeft}
use Rattle.bl_journal.specs.Logs.{EndsIn, HasRoom}
use Rattle.bl_journal.specs.Parts.{IsNewLog}
use Rattle.bl_image.proofs.Chunks.{length-word_bytes}
use Rattle.bl_journal.proofs.Spelling.{word_bytes-append, zero_bytes, fits-append, fits-zeros}
use Rattle.bl_journal.proofs.Telling.{at_rest}
use Rattle.bl_journal.proofs.Bodies.{left_of_rows}

pub new_room : (salt : ℕ) (rows : List (ℕ × ℕ)) (bytes : List ℕ) (m : ℕ → Option ℕ) (zeros k : ℕ) → IsNewLog salt rows bytes → IsLeft rows [] m → zeros ≡ 8 * k
    → HasRoom (bytes ++ replicate zeros 0) salt (length bytes) (length bytes + zeros) m
new_room salt rows bytes m zeros k new left is = record {
  front = new.words;
  zeros = k;
  bodies = body_words rows [] ∷ [];
  file_is = ap (λ (n : ℕ). bytes ++ replicate n 0) is ∙ ap (λ (l : List ℕ). bytes ++ l) (zero_bytes k) ∙ ap (λ (l : List ℕ). l ++ word_bytes (replicate k 0)) new.spelled
      ∙ sym (word_bytes-append (mark ∷ salt ∷ new.words) (replicate k 0));
  fits = new.fits;
  spells = ([], new.begins, refl);
  ends = omega (arith, ap length new.spelled, length-word_bytes (mark ∷ salt ∷ new.words));
  sized = omega (arith, is);
  left = left_of_rows rows m left;
}

pub new_long : (salt : ℕ) (rows : List (ℕ × ℕ)) (bytes : List ℕ) → (new : IsNewLog salt rows bytes) → length bytes ≡ 8 * (2 + length new.words)
new_long salt rows bytes new = omega (arith, ap length new.spelled, length-word_bytes (mark ∷ salt ∷ new.words))

pub new_ends : (salt : ℕ) (rows : List (ℕ × ℕ)) (bytes last : List ℕ) (zeros k : ℕ) → IsNewLog salt rows bytes → zeros ≡ 8 * k → EndsIn (bytes ++ replicate zeros 0) last
new_ends salt rows bytes last zeros k new is = record {
  words = mark ∷ salt ∷ (new.words ++ replicate k 0);
  bodies = body_words rows [] ∷ [];
  spelled = ap (λ (n : ℕ). bytes ++ replicate n 0) is ∙ ap (λ (l : List ℕ). bytes ++ l) (zero_bytes k) ∙ ap (λ (l : List ℕ). l ++ word_bytes (replicate k 0)) new.spelled
      ∙ sym (word_bytes-append (mark ∷ salt ∷ new.words) (replicate k 0));
  fits = (omega arith, (new.fits.0, fits-append new.words (replicate k 0) new.fits.1 (fits-zeros k)));
  records = (refl, at_rest salt (body_words rows [] ∷ []) new.words k ([], new.begins, refl));
  end = inl (body_words rows [], refl);
}
