-- Words as bytes, and what is left of bytes that were written over zeros.
use Rattle.std.proofs.Common.{◌≡◌, ◌⊎◌, ⊎_elim, ℕ, zero, suc, ◌+◌, ◌*◌, ◌^◌, ◌<◌, ◌≤◌, List, [], ◌∷◌, ◌++◌, length, get_or, take, drop, refl, ap, sym, ◌∙◌, inl, inr, arith, append_assoc}
use Rattle.std.specs.Prelude.{replicate}
use Rattle.std.specs.List.{AllZip}
use Rattle.std.proofs.lemmas.Nat.{from_le_bytes-to_le_bytes_8}
use Rattle.std.proofs.lemmas.Bool.{cases_lt}
use Rattle.std.proofs.lemmas.List.{append-nil, take_all, take_more, replicate-append-replicate, get_or-drop, get_or-take, get_or_past, length-take}
use Rattle.std.proofs.lemmas.List.Concat.{flat_map-append}
use Rattle.byteorder.specs.Endian.{little_bytes, little_number}
use Rattle.bl_image.proofs.Bytes.{again as number_again}
use Rattle.bl_image.proofs.Chunks.{word_bytes-same, length-word_bytes}
use Rattle.bl_journal.specs.Files.{AreTorn}
use Rattle.bl_image.specs.Images.{word_bytes, Fits64}

pub fits_64 : (words : List ℕ) → ((i : ℕ) → get_or words i 0 < 2 ^ 64) → Fits64 words
fits_64 [] h = tt
fits_64 (word ∷ words) h = (h 0, fits_64 words (λ i. h (suc i)))

pub fits-append : (a b : List ℕ) → Fits64 a → Fits64 b → Fits64 (a ++ b)
fits-append [] b small_a small_b = small_b
fits-append (x ∷ a) b small_a small_b = (small_a.0, fits-append a b small_a.1 small_b)

pub fits-zeros : (n : ℕ) → Fits64 (replicate n 0)
fits-zeros zero = tt
fits-zeros (suc n) = (omega arith, fits-zeros n)

pub word_bytes-append : (a b : List ℕ) → word_bytes (a ++ b) ≡ word_bytes a ++ word_bytes b
word_bytes-append a b = flat_map-append (little_bytes 8) a b

pub zero_bytes : (n : ℕ) → replicate (8 * n) 0 ≡ word_bytes (replicate n 0)
zero_bytes zero = refl
zero_bytes (suc n) = ap (λ (m : ℕ). replicate m 0) (let e : 8 * suc n ≡ 8 + 8 * n = omega arith in e) ∙ sym (replicate-append-replicate 8 (8 * n) 0) ∙ ap (λ (l : List ℕ). 0 ∷ 0 ∷ 0 ∷ 0 ∷ 0 ∷ 0 ∷ 0 ∷ 0 ∷ l) (zero_bytes n)

read_back : (word : ℕ) (rest : List ℕ) → word < 2 ^ 64 → little_number 8 (little_bytes 8 word ++ rest) ≡ word
read_back word rest small = let back = from_le_bytes-to_le_bytes_8 word small in omega (arith, back)

pub bytes_same : (a b : List ℕ) → Fits64 a → Fits64 b → word_bytes a ≡ word_bytes b → a ≡ b
bytes_same a b small_a small_b e = word_bytes-same a b (omega (arith, length-word_bytes a, length-word_bytes b, ap length e)) small_a small_b e

abbrev pub AreBytes : List ℕ → Type 0
AreBytes bytes = (i : ℕ) → get_or bytes i 0 < 256

pub AreBytes-take : (n : ℕ) (bytes : List ℕ) → AreBytes bytes → AreBytes (take n bytes)
AreBytes-take n bytes small i = elim (cases_lt i n) [
  | inl lt ↦ rw (get_or-take n bytes i 0 lt) (small i)
  | inr le ↦ rw (get_or_past (take n bytes) i 0 (omega (arith, length-take n bytes))) (omega arith)
]

pub AreBytes-drop : (n : ℕ) (bytes : List ℕ) → AreBytes bytes → AreBytes (drop n bytes)
AreBytes-drop n bytes small i = rw get_or-drop (small (n + i))

-- eight bytes, read as a number and written again
pub again : (bytes : List ℕ) → length bytes ≡ 8 → AreBytes bytes → little_bytes 8 (little_number 8 bytes) ≡ bytes
again bytes long small = number_again bytes (omega (arith, long)) small ∙ take_all 8 bytes (omega (arith, long))

-- one word more, as it was written
pub spelled_more : (words : List ℕ) (i word : ℕ) (bytes new : List ℕ) → i < length words → word ≡ get_or words i word → bytes ≡ word_bytes (take i words)
    → new ≡ bytes ++ little_bytes 8 word → new ≡ word_bytes (take (i + 1) words)
spelled_more words i word bytes new lt is so_far pushed =
    pushed ∙ ap (λ (l : List ℕ). l ++ little_bytes 8 word) so_far
    ∙ ap (λ (l : List ℕ). word_bytes (take i words) ++ l) (sym (append-nil (little_bytes 8 word)))
    ∙ sym (word_bytes-append (take i words) (word ∷ []))
    ∙ ap word_bytes (sym (take_more words i word lt ∙ ap (λ (w : ℕ). take i words ++ w ∷ []) (sym is)))

-- and as it was read
pub read_more : (words new first behind rest bytes : List ℕ) (word : ℕ) → word_bytes words ++ rest ≡ bytes → first ++ behind ≡ rest → little_bytes 8 word ≡ first
    → new ≡ words ++ word ∷ [] → word_bytes new ++ behind ≡ bytes
read_more words new first behind rest bytes word so_far split spelled pushed =
    ap (λ (l : List ℕ). word_bytes l ++ behind) pushed ∙ ap (λ (l : List ℕ). l ++ behind) (word_bytes-append words (word ∷ []))
    ∙ append_assoc (word_bytes words) (word_bytes (word ∷ [])) behind
    ∙ ap (λ (l : List ℕ). word_bytes words ++ (l ++ behind)) (append-nil (little_bytes 8 word) ∙ spelled)
    ∙ ap (λ (l : List ℕ). word_bytes words ++ l) split ∙ so_far

-- a byte that is left is at most the one that was written
low : (left written : ℕ) → (left ≡ 0) ⊎ (left ≡ written) → left ≤ written
low left written is = ⊎_elim (λ (none : left ≡ 0). omega arith) (λ (whole : left ≡ written). omega arith) is

-- what is left of the bytes of a word is a word that is at most it
torn_word : (word : ℕ) (a b c d e f g h : ℕ) → word < 2 ^ 64 → AreTorn (a ∷ b ∷ c ∷ d ∷ e ∷ f ∷ g ∷ h ∷ []) (little_bytes 8 word)
    → (left : ℕ) × (a ∷ b ∷ c ∷ d ∷ e ∷ f ∷ g ∷ h ∷ [] ≡ little_bytes 8 left) × (left ≤ word)
torn_word word a b c d e f g h small torn =
    let bytes : List ℕ = a ∷ b ∷ c ∷ d ∷ e ∷ f ∷ g ∷ h ∷ [] in
    let written : List ℕ = little_bytes 8 word in
    let back = read_back word [] small in
    let la = low a _ torn.0 in let lb = low b _ torn.1.0 in let lc = low c _ torn.1.1.0 in let ld = low d _ torn.1.1.1.0 in
    let le = low e _ torn.1.1.1.1.0 in let lf = low f _ torn.1.1.1.1.1.0 in let lg = low g _ torn.1.1.1.1.1.1.0 in let lh = low h _ torn.1.1.1.1.1.1.1.0 in
    let below : little_number 8 bytes ≤ word = omega (arith, back, la, lb, lc, ld, le, lf, lg, lh) in
    (little_number 8 bytes, sym (again bytes refl (λ i. small_byte i)), below)
  where
    small_byte : (i : ℕ) → get_or (a ∷ b ∷ c ∷ d ∷ e ∷ f ∷ g ∷ h ∷ []) i 0 < 256
    small_byte zero = let l = low a _ torn.0 in omega (arith, l)
    small_byte (suc zero) = let l = low b _ torn.1.0 in omega (arith, l)
    small_byte (suc (suc zero)) = let l = low c _ torn.1.1.0 in omega (arith, l)
    small_byte (suc (suc (suc zero))) = let l = low d _ torn.1.1.1.0 in omega (arith, l)
    small_byte (suc (suc (suc (suc zero)))) = let l = low e _ torn.1.1.1.1.0 in omega (arith, l)
    small_byte (suc (suc (suc (suc (suc zero))))) = let l = low f _ torn.1.1.1.1.1.0 in omega (arith, l)
    small_byte (suc (suc (suc (suc (suc (suc zero)))))) = let l = low g _ torn.1.1.1.1.1.1.0 in omega (arith, l)
    small_byte (suc (suc (suc (suc (suc (suc (suc zero))))))) = let l = low h _ torn.1.1.1.1.1.1.1.0 in omega (arith, l)
    small_byte (suc (suc (suc (suc (suc (suc (suc (suc i)))))))) = omega arith

-- each word is at most the one that has its place in the other list
abbrev pub AreAtMost : List ℕ → List ℕ → Type 0
AreAtMost some words = AllZip (λ a b. a ≤ b) some words

-- What is left of the bytes of words: those of words that are at most them.
pub record LeftOf (words some : List ℕ) : Type 0 where
  pub left : List ℕ
  pub spelled : some ≡ word_bytes left
  pub low : AreAtMost left words
  pub fits : Fits64 left

pub left_of : (words some : List ℕ) → Fits64 words → AreTorn some (word_bytes words) → LeftOf words some
left_of [] [] small torn = record { left = []; spelled = refl; low = tt; fits = tt }
left_of [] (s ∷ some) small torn = absurd torn
left_of (word ∷ words) [] small torn = absurd torn
left_of (word ∷ words) (a ∷ []) small torn = absurd torn.1
left_of (word ∷ words) (a ∷ b ∷ []) small torn = absurd torn.1.1
left_of (word ∷ words) (a ∷ b ∷ c ∷ []) small torn = absurd torn.1.1.1
left_of (word ∷ words) (a ∷ b ∷ c ∷ d ∷ []) small torn = absurd torn.1.1.1.1
left_of (word ∷ words) (a ∷ b ∷ c ∷ d ∷ e ∷ []) small torn = absurd torn.1.1.1.1.1
left_of (word ∷ words) (a ∷ b ∷ c ∷ d ∷ e ∷ f ∷ []) small torn = absurd torn.1.1.1.1.1.1
left_of (word ∷ words) (a ∷ b ∷ c ∷ d ∷ e ∷ f ∷ g ∷ []) small torn = absurd torn.1.1.1.1.1.1.1
left_of (word ∷ words) (a ∷ b ∷ c ∷ d ∷ e ∷ f ∷ g ∷ h ∷ some) small torn =
    let t : AreTorn (a ∷ b ∷ c ∷ d ∷ e ∷ f ∷ g ∷ h ∷ []) (little_bytes 8 word) =
    (torn.0, (torn.1.0, (torn.1.1.0, (torn.1.1.1.0, (torn.1.1.1.1.0, (torn.1.1.1.1.1.0, (torn.1.1.1.1.1.1.0, (torn.1.1.1.1.1.1.1.0, tt)))))))) in
    let first = torn_word word a b c d e f g h small.0 t in
    let rest = left_of words some small.1 torn.1.1.1.1.1.1.1.1 in
    record {
      left = first.0 ∷ rest.left;
      spelled = ap (λ (l : List ℕ). l ++ some) first.1 ∙ ap (λ (l : List ℕ). little_bytes 8 first.0 ++ l) rest.spelled;
      low = (first.2, rest.low);
      fits = (omega (arith, first.2, small.0), rest.fits);
    }
