-- What a crash leaves while a record is written over the zeros of a log.
use Rattle.std.proofs.Common.{◌≡◌, ◌⊎◌, inl, inr, ℕ, ◌+◌, ◌-◌, ◌*◌, ◌≤◌, List, [], ◌∷◌, ◌++◌, length, take, drop, Option, refl, sym, ◌∙◌, ap, subst, arith, append_assoc, length-append}
use Rattle.std.specs.Prelude.{replicate, flat_map}
use Rattle.std.proofs.lemmas.List.{take_at, drop_at, append-nil, drop-replicate, take-replicate, length-replicate}
use Rattle.std.proofs.Math.Seq.{drop-append-add}
use Rattle.bl_journal.specs.Files.{AreZeros, IsFilled, Fills}
use Rattle.bl_image.specs.Images.{word_bytes, Fits64}
use Rattle.bl_journal.specs.Records.{mark, Begins, Tells, body_words, came_in, went_in}
use Rattle.bl_journal.specs.Rows.{IsLeft, Leads}
use Rattle.bl_journal.specs.Logs.{IsLogOf, EndsIn, Spells, HasRoom}
use Rattle.bl_image.proofs.Chunks.{length-word_bytes}
use Rattle.bl_journal.proofs.Spelling.{word_bytes-append, zero_bytes, fits-append, fits-zeros, left_of, LeftOf}
use Rattle.bl_journal.proofs.Telling.{torn_tells, spells_then_tells, spells_push, at_rest, no_zeros}
use Rattle.bl_journal.proofs.Bodies.{left_more}

-- the words of a log: its head, records, and what stands behind them
abbrev pub log : ℕ → List ℕ → List ℕ → List ℕ
log salt front rest = mark ∷ salt ∷ (front ++ rest)

fits_log : (salt : ℕ) (front rest : List ℕ) → Fits64 (salt ∷ front) → Fits64 rest → Fits64 (log salt front rest)
fits_log salt front rest fits others = (omega arith, (fits.0, fits-append front rest fits.1 others))

-- words that begin with records, and tell no more
log_of : (salt : ℕ) (front rest bytes : List ℕ) (bodies : List (List ℕ)) (m : ℕ → Option ℕ) → bytes ≡ word_bytes (log salt front rest) → Fits64 (salt ∷ front) → Fits64 rest
    → Spells salt front bodies → Tells salt rest [] → IsLeft (flat_map came_in bodies) (flat_map went_in bodies) m → IsLogOf bytes m
log_of salt front rest bytes bodies m is fits others spells none left = record {
  words = log salt front rest;
  spelled = is;
  fits = fits_log salt front rest fits others;
  bodies = bodies;
  records = (refl, subst (λ (bs : List (List ℕ)). Tells salt (front ++ rest) bs) (append-nil bodies) (spells_then_tells salt bodies [] front rest spells none));
  left = left;
}

pub log_of_room : (file : List ℕ) (salt end size : ℕ) (m : ℕ → Option ℕ) → HasRoom file salt end size m → IsLogOf file m
log_of_room file salt end size m r =
    log_of salt r.front (replicate r.zeros 0) file r.bodies m r.file_is r.fits (fits-zeros r.zeros) r.spells (no_zeros salt r.zeros) r.left

-- the same of equal files, ends and sizes
pub room_as : (file other : List ℕ) (salt end end' size size' : ℕ) (m : ℕ → Option ℕ) → other ≡ file → end' ≡ end → size' ≡ size → HasRoom file salt end size m
    → HasRoom other salt end' size' m
room_as file other salt end end' size size' m is ends sized r = record {
  front = r.front;
  zeros = r.zeros;
  bodies = r.bodies;
  file_is = is ∙ r.file_is;
  fits = r.fits;
  spells = r.spells;
  ends = ends ∙ r.ends;
  sized = omega (arith, ends, sized, r.sized);
  left = r.left;
}

-- the bytes of the head and the records, and zeros behind them
parts : (salt : ℕ) (front rest : List ℕ) → word_bytes (log salt front rest) ≡ word_bytes (mark ∷ salt ∷ front) ++ word_bytes rest
parts salt front rest = word_bytes-append (mark ∷ salt ∷ front) rest

module _ (file : List ℕ) (salt end size : ℕ) (m : ℕ → Option ℕ) (r : HasRoom file salt end size m) where
  abbrev head : List ℕ
  head = word_bytes (mark ∷ salt ∷ r.front)

  long : length head ≡ end
  long = length-word_bytes (mark ∷ salt ∷ r.front) ∙ (let e : 8 * length (mark ∷ salt ∷ r.front) ≡ end = omega (arith, r.ends) in e)

  file_parts : file ≡ head ++ replicate (8 * r.zeros) 0
  file_parts = r.file_is ∙ parts salt r.front (replicate r.zeros 0) ∙ ap (λ (l : List ℕ). head ++ l) (sym (zero_bytes r.zeros))

  pub are_zeros : (count : ℕ) → end + count ≤ size → AreZeros file end count
  are_zeros count short = record {
    within = omega (arith, ap length file_parts, length-append head (replicate (8 * r.zeros) 0), length-replicate {A = ℕ} (8 * r.zeros) 0, long, r.sized);
    zeros = ap (λ (l : List ℕ). take count (drop end l)) file_parts ∙ ap (λ (l : List ℕ). take count l) (drop_at head (replicate (8 * r.zeros) 0) end long)
        ∙ take-replicate count (8 * r.zeros) 0 (omega (arith, r.sized, short));
  }

  filled : (words new : List ℕ) → IsFilled file end (word_bytes words) new → new ≡ word_bytes (log salt r.front (words ++ replicate (r.zeros - length words) 0))
  filled words new is =
      let some : List ℕ = word_bytes words in
      let zeros : List ℕ = replicate (8 * r.zeros) 0 in
      let many = length-word_bytes words in
      let before : take end file ≡ head = ap (λ (l : List ℕ). take end l) file_parts ∙ take_at head zeros end long in
      let place : end + length some ≡ length head + 8 * length words = omega (arith, long, many) in
      let fewer : 8 * r.zeros - 8 * length words ≡ 8 * (r.zeros - length words) = omega arith in
      let after : drop (end + length some) file ≡ word_bytes (replicate (r.zeros - length words) 0) =
      ap (λ (l : List ℕ). drop (end + length some) l) file_parts ∙ ap (λ (n : ℕ). drop n (head ++ zeros)) place ∙ drop-append-add head zeros (8 * length words)
      ∙ drop-replicate (8 * length words) (8 * r.zeros) 0 ∙ ap (λ (n : ℕ). replicate n 0) fewer ∙ zero_bytes (r.zeros - length words) in
      is
      ∙ ap (λ (l : List ℕ). l ++ some ++ drop (end + length some) file) before
      ∙ ap (λ (l : List ℕ). head ++ some ++ l) after
      ∙ append_assoc head some (word_bytes (replicate (r.zeros - length words) 0))
      ∙ ap (λ (l : List ℕ). head ++ l) (sym (word_bytes-append words (replicate (r.zeros - length words) 0)))
      ∙ sym (parts salt r.front (words ++ replicate (r.zeros - length words) 0))

  module _ (words : List ℕ) (came went : List (ℕ × ℕ)) (begins : Begins salt words (body_words came went) []) where
    with_it : Spells salt (r.front ++ words) (r.bodies ++ body_words came went ∷ [])
    with_it = spells_push salt r.bodies r.front words (body_words came went) r.spells begins

    pub fill_ends : (after : List ℕ) → Fits64 words → IsFilled file end (word_bytes words) after → EndsIn after (body_words came went)
    fill_ends after fits is = record {
      words = log salt (r.front ++ words) (replicate (r.zeros - length words) 0);
      bodies = r.bodies ++ body_words came went ∷ [];
      spelled = filled words after is ∙ ap (λ (l : List ℕ). word_bytes (mark ∷ salt ∷ l)) (sym (append_assoc r.front words (replicate (r.zeros - length words) 0)));
      fits = fits_log salt (r.front ++ words) (replicate (r.zeros - length words) 0) (r.fits.0, fits-append r.front words r.fits.1 fits) (fits-zeros (r.zeros - length words));
      records = (refl, at_rest salt (r.bodies ++ body_words came went ∷ []) (r.front ++ words) (r.zeros - length words) with_it);
      end = inr (r.bodies, refl);
    }

  module _ (words : List ℕ) (came went : List (ℕ × ℕ)) (new : ℕ → Option ℕ) (begins : Begins salt words (body_words came went) []) (fits : Fits64 words)
      (leads : Leads came went m new) where
    left_new : IsLeft (flat_map came_in (r.bodies ++ body_words came went ∷ [])) (flat_map went_in (r.bodies ++ body_words came went ∷ [])) new
    left_new = left_more r.bodies came went m new r.left leads

    -- a crash leaves the records, with the new one or without it
    pub fill_crash : (c : List ℕ) → Fills end (word_bytes words) file c → IsLogOf c m ⊎ IsLogOf c new
    fill_crash c fills =
        let some : LeftOf words fills.0 = left_of words fills.0 fits fills.1 in
        let rest : List ℕ = replicate (r.zeros - length some.left) 0 in
        let is_some : IsFilled file end (word_bytes some.left) c = subst (λ (l : List ℕ). IsFilled file end l c) some.spelled fills.2 in
        let is : c ≡ word_bytes (log salt r.front (some.left ++ rest)) = filled some.left c is_some in
        let others : Fits64 rest = fits-zeros (r.zeros - length some.left) in
        elim (torn_tells salt (body_words came went) words some.left rest begins some.low) [
          | inl none ↦ inl (log_of salt r.front (some.left ++ rest) c r.bodies m is r.fits (fits-append some.left rest some.fits others) r.spells none r.left)
          | inr whole ↦
              let same : c ≡ word_bytes (log salt (r.front ++ words) rest) =
              is ∙ ap (λ (l : List ℕ). word_bytes (log salt r.front (l ++ rest))) whole ∙ ap (λ (l : List ℕ). word_bytes (mark ∷ salt ∷ l)) (sym (append_assoc r.front words rest)) in
              inr (log_of salt (r.front ++ words) rest c (r.bodies ++ body_words came went ∷ []) new same (r.fits.0, fits-append r.front words r.fits.1 fits) others (with_it words came went begins)
              (no_zeros salt (r.zeros - length some.left)) left_new)
        ]

    pub fill_room : (after : List ℕ) → end + 8 * length words ≤ size → IsFilled file end (word_bytes words) after → HasRoom after salt (end + 8 * length words) size new
    fill_room after short is = record {
      front = r.front ++ words;
      zeros = r.zeros - length words;
      bodies = r.bodies ++ body_words came went ∷ [];
      file_is = filled words after is ∙ ap (λ (l : List ℕ). word_bytes (mark ∷ salt ∷ l)) (sym (append_assoc r.front words (replicate (r.zeros - length words) 0)));
      fits = (r.fits.0, fits-append r.front words r.fits.1 fits);
      spells = with_it words came went begins;
      ends = omega (arith, r.ends, length-append r.front words);
      sized = omega (arith, r.sized, short);
      left = left_new;
    }
