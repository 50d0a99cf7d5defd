-- Words as bytes.
use Rattle.std.proofs.Common.{◌≡◌, ℕ, suc, ◌+◌, ◌*◌, ◌<◌, ◌≤◌, List, [], ◌∷◌, ◌++◌, length, get_or, take, drop, ap, sym, ◌∙◌, inl, inr, arith}
use Rattle.std.specs.Int.{w64, from_le_bytes}
use Rattle.std.proofs.lemmas.Nat.{le_bytes_8}
use Rattle.std.proofs.lemmas.List.{take-append-drop, drop-drop, get_or-drop, length-drop, length-take, length-take-le, get_or-take, get_or_past, nil_from_length}
use Rattle.std.proofs.lemmas.Bool.{cases_lt}
use Rattle.byteorder.specs.Endian.{little_bytes, little_number}
use Rattle.bl_image.specs.Images.{word_bytes}

abbrev pub AreBytes : List ℕ → Type 0
AreBytes bytes = (i : ℕ) → get_or bytes i 0 < 256

AreBytes-take : (n : ℕ) (bytes : List ℕ) → AreBytes bytes → AreBytes (take n bytes)
AreBytes-take n bytes small i = elim (cases_lt i n) [
  | inl lt ↦ rw (get_or-take n bytes i 0 lt) (small i)
  | inr le ↦ rw (get_or_past (take n bytes) i 0 (omega (arith, length-take n bytes))) (omega arith)
]

AreBytes-drop : (n : ℕ) (bytes : List ℕ) → AreBytes bytes → AreBytes (drop n bytes)
AreBytes-drop n bytes small i = rw get_or-drop (small (n + i))

same_number : (bytes : List ℕ) → little_number 8 bytes ≡ from_le_bytes w64 bytes
same_number bytes = omega arith

first_number : (bytes : List ℕ) → little_number 8 bytes ≡ little_number 8 (take 8 bytes)
first_number bytes =
    let a = get_or-take 8 bytes 0 0 (omega arith) in let b = get_or-take 8 bytes 1 0 (omega arith) in let c = get_or-take 8 bytes 2 0 (omega arith) in
    let d = get_or-take 8 bytes 3 0 (omega arith) in let e = get_or-take 8 bytes 4 0 (omega arith) in let f = get_or-take 8 bytes 5 0 (omega arith) in
    let g = get_or-take 8 bytes 6 0 (omega arith) in let h = get_or-take 8 bytes 7 0 (omega arith) in omega (arith, a, b, c, d, e, f, g, h)

-- eight bytes, read as a number and written again
pub again : (bytes : List ℕ) → 8 ≤ length bytes → AreBytes bytes → little_bytes 8 (little_number 8 bytes) ≡ take 8 bytes
again bytes long small = le_bytes_8 (take 8 bytes) (little_number 8 bytes) (length-take-le 8 bytes long) (AreBytes-take 8 bytes small) (first_number bytes ∙ same_number (take 8 bytes))

-- bytes read as words, eight each, and written again
pub words_again : (words bytes : List ℕ) → length bytes ≡ 8 * length words → AreBytes bytes → ((k : ℕ) → k < length words → get_or words k 0 ≡ little_number 8 (drop (8 * k) bytes)) → word_bytes words ≡ bytes
words_again [] bytes long small read = sym (nil_from_length bytes long)
words_again (word ∷ words) bytes long small read =
    let first : word ≡ little_number 8 bytes = read 0 (omega arith) in
    let rest = words_again words (drop 8 bytes) (omega (arith, length-drop 8 bytes)) (AreBytes-drop 8 bytes small)
    (λ k lt. read (suc k) (omega arith) ∙ ap (little_number 8) (ap (λ n. drop n bytes) (let e : 8 * suc k ≡ 8 + 8 * k = omega arith in e) ∙ sym (drop-drop (8 * k) 8 bytes))) in
    ap (λ t. t ++ word_bytes words) (ap (little_bytes 8) first ∙ again bytes (omega arith) small) ∙ ap (λ t. take 8 bytes ++ t) rest ∙ take-append-drop 8 bytes
