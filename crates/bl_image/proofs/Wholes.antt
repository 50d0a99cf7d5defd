-- Whole images: what their heads say, and that there is one for each list of pages.
use Rattle.std.proofs.Common.{◌≡◌, ℕ, zero, suc, ◌-◌, ◌<◌, ◌≤◌, ◌^◌, List, [], ◌∷◌, ◌++◌, length, get_or, take, drop, Option, Some, None, refl, ap, sym, subst, ◌∙◌, length-append, inl, inr, arith}
use Rattle.std.specs.Prelude.{flat_map, replicate, max}
use Rattle.std.specs.List.{AllByRecursion}
use Rattle.std.proofs.lemmas.Bool.{cases_lt}
use Rattle.std.proofs.lemmas.Nat.{from_le_bytes-to_le_bytes_4}
use Rattle.std.proofs.lemmas.List.{take_at, get_or-take, length-take-le, length-replicate, take-append-drop}
use Rattle.byteorder.specs.Endian.{little_bytes, little_number}
use Rattle.bl_page.specs.declared.page.Page.{Page}
use Rattle.bl_image.specs.Images.{page_words, page_bytes, image_bytes, head_bytes, told_of, bound_of, least_stored, used_to, stored, Fits64, NamesBelow, AreWithin, IsCount, IsStored, AreStored, IsHead, IsImage, IsFault, chunk}
use Rattle.bl_image.specs.declared.fault.ImageFault.{ImageFault}
use Rattle.bl_image.specs.declared.fault.ImageFault.TheVariants as fault
use Rattle.bl_image.proofs.Chunks.{chunk_stored, fits_at, below_at, length-pages, page_bytes-same, pages-same}
use Rattle.bl_image.proofs.Stored.{blanks, used_behind, used_most, used_full, last_used, most_left, right_most, most_is_left, most_is_right, stored_most, stored_rest, none_fits, blanks_fit, blanks_below, all_both}

read_4 : (n : ℕ) (rest : List ℕ) → n < 2 ^ 32 → little_number 4 (little_bytes 4 n ++ rest) ≡ n
read_4 n rest small = let back = from_le_bytes-to_le_bytes_4 n small in omega (arith, back)

pub count_told : (count kept : ℕ) → count < 2 ^ 32 → little_number 4 (drop 12 (head_bytes count kept)) ≡ count
count_told count kept small = read_4 count (little_bytes 4 (told_of count kept) ++ replicate 12 0) small

told_large : (count kept : ℕ) → 65536 < count → told_of count kept ≡ kept
told_large count kept large = grind arith

-- in version 2 the head tells how many pages are stored
pub kept_told : (count kept : ℕ) → 65536 < count → kept < 2 ^ 32 → little_number 4 (drop 16 (head_bytes count kept)) ≡ kept
kept_told count kept large small =
    let told = told_large count kept large in
    read_4 (told_of count kept) (replicate 12 0) (subst (λ (n : ℕ). n < 2 ^ 32) (sym told) small) ∙ told

-- the head tells how many pages there are
pub count_read : (bytes : List ℕ) (count kept : ℕ) → IsHead bytes count kept → little_number 4 (drop 12 (take 32 bytes)) ≡ count
count_read bytes count kept head = ap (λ t. little_number 4 (drop 12 t)) head.head ∙ count_told count kept (omega (arith, head.count_fits.1))

small_least : (count : ℕ) → count ≤ 65536 → least_stored count ≡ count
small_least count le = grind arith

-- in version 1 all pages are stored
all_stored : (bytes : List ℕ) (count kept : ℕ) → count ≤ 65536 → IsStored bytes count kept → count ≡ kept
all_stored bytes count kept le held =
    let least : count ≤ kept = subst (λ (n : ℕ). n ≤ kept) (small_least count le) held.least in
    let most = held.most in omega (arith, least, most)

-- the number of stored pages that is read of a head is the one that it tells
pub stored_read : (bytes : List ℕ) (count stored n k : ℕ) → count ≡ n → IsHead bytes n k → (65536 < count → (kept : ℕ) → take 32 bytes ≡ head_bytes count kept → kept < 2 ^ 32 → stored ≡ kept)
    → (count ≤ 65536 → stored ≡ count) → stored ≡ k
stored_read bytes count stored n k same head large small = elim (cases_lt 65536 count) [
  | inl lt ↦ large lt k (head.head ∙ ap (λ (m : ℕ). head_bytes m k) (sym same)) (omega (arith, head.kept_fits.most, head.count_fits.1))
  | inr le ↦ small le ∙ (same ∙ all_stored bytes n k (omega (arith, le, same)) head.kept_fits)
]

abbrev value : Option ℕ → ℕ
value None = 0
value (Some n) = n

pub same_value : (a b : ℕ) → Some a ≡ Some b → a ≡ b
same_value a b e = ap value e

pub stored_size : (pages : List (Option Page)) → 4 ≤ length pages → length (take (stored pages) pages) ≡ stored pages
stored_size pages some = length-take-le (stored pages) pages (stored_most pages some)

-- the bytes of page x of an image
chunk_is : (x : ℕ) (pages : List (Option Page)) (bytes : List ℕ) → IsImage pages bytes → x < stored pages → chunk bytes x ≡ page_bytes (get_or pages x None)
chunk_is x pages bytes image lt =
    let size = stored_size pages image.count.0 in
    chunk_stored x (take (stored pages) pages) bytes (sym (ap (drop 32) image.bytes_are)) (omega (arith, lt, size)) ∙ ap page_bytes (get_or-take (stored pages) pages x None lt)

not_none : (a n : ℕ) → a < n → n ≡ suc (n - 1)
not_none a n lt = omega arith

-- the last page that is stored has to be
last_stored : (pages : List (Option Page)) (bytes : List ℕ) → IsImage pages bytes → least_stored (length pages) < stored pages → chunk bytes (stored pages - 1) ≡ replicate 256 0 → ⊥
last_stored pages bytes image lt blank =
    let x : ℕ = stored pages - 1 in
    let used : used_to pages ≡ stored pages = right_most (least_stored (length pages)) (used_to pages) lt in
    let some : stored pages ≡ suc x = not_none (least_stored (length pages)) (stored pages) lt in
    let last : used_to pages ≡ suc x = used ∙ some in
    let below : x < stored pages = omega (arith, some) in
    let within : x < length pages = omega (arith, below, stored_most pages image.count.0) in
    let none : get_or pages x None ≡ None = page_bytes-same (get_or pages x None) None (fits_at x pages image.words within) none_fits (sym (chunk_is x pages bytes image below) ∙ blank) in
    last_used pages x last none

pub head_of_image : (pages : List (Option Page)) (bytes : List ℕ) → IsImage pages bytes → IsHead bytes (length pages) (stored pages)
head_of_image pages bytes image = record {
  count_fits = image.count;
  kept_fits = record {
    least = most_left (least_stored (length pages)) (used_to pages);
    most = stored_most pages image.count.0;
    last = λ lt blank. last_stored pages bytes image lt blank;
  };
  long = (let size = length-pages (take (stored pages) pages) in let many = stored_size pages image.count.0 in
      let same : length bytes ≡ length (image_bytes pages) = ap length image.bytes_are in omega (arith, size, many, same));
  head = ap (take 32) image.bytes_are;
}

same_count : (bytes : List ℕ) (a b k m : ℕ) → IsHead bytes a k → IsHead bytes b m → a ≡ b
same_count bytes a b k m p q = sym (count_read bytes a k p) ∙ count_read bytes b m q

same_stored : (bytes : List ℕ) (a b k m : ℕ) → IsHead bytes a k → IsHead bytes b m → k ≡ m
same_stored bytes a b k m p q = omega (arith, p.long, q.long)

-- no fault but want of memory is found in an image
no_page_fault : (pages : List (Option Page)) (bytes : List ℕ) (x : ℕ) → IsImage pages bytes → AreWithin pages → IsFault (fault.Page x) bytes → ⊥
no_page_fault pages bytes x image small (count, kept, head, below, other, least) =
    let own = head_of_image pages bytes image in
    let same = same_count bytes count (length pages) kept (stored pages) head own in
    let many = same_stored bytes count (length pages) kept (stored pages) head own in
    let lt : x < stored pages = omega (arith, below, many) in
    let within : x < length pages = omega (arith, lt, stored_most pages image.count.0) in
    let names : NamesBelow (bound_of count) (get_or pages x None) = subst (λ (n : ℕ). NamesBelow (bound_of n) (get_or pages x None)) (sym same) (below_at (bound_of (length pages)) x pages small within) in
    other (get_or pages x None, names, fits_at x pages image.words within, chunk_is x pages bytes image lt)

all_take : (P : Option Page → Type 0) (n : ℕ) (pages : List (Option Page)) → AllByRecursion P pages → AllByRecursion P (take n pages)
all_take P zero pages h = tt
all_take P (suc n) [] h = tt
all_take P (suc n) (page ∷ pages) h = (h.0, all_take P n pages h.1)

-- no two lists of pages have the same image
pub image_same : (a b : List (Option Page)) (bytes : List ℕ) → IsImage a bytes → IsImage b bytes → a ≡ b
image_same a b bytes p q =
    let of_a = head_of_image a bytes p in let of_b = head_of_image b bytes q in
    let count = same_count bytes (length a) (length b) (stored a) (stored b) of_a of_b in
    let many = same_stored bytes (length a) (length b) (stored a) (stored b) of_a of_b in
    let size_a = stored_size a p.count.0 in let size_b = stored_size b q.count.0 in
    let front : take (stored a) a ≡ take (stored b) b = pages-same (take (stored a) a) (take (stored b) b)
    (all_take _ (stored a) a p.words) (all_take _ (stored b) b q.words) (size_a ∙ many ∙ sym size_b) (ap (drop 32) (sym p.bytes_are ∙ q.bytes_are)) in
    stored_rest a ∙ (λ i. front i ++ blanks (count i - many i)) ∙ sym (stored_rest b)

-- pages that are stored behind a head, and so many behind them that they are as many as it says
module _ (pages all : List (Option Page)) (bytes : List ℕ) (count kept : ℕ) (head : IsHead bytes count kept) (held : AreStored bytes count kept pages) (is : all ≡ pages ++ blanks (count - length pages)) where
  abbrev behind : ℕ
  behind = count - length pages

  size : length all ≡ count
  size = ap length is ∙ (let both = length-append pages (blanks behind) in let rest = length-replicate {A = Option Page} behind None in
      let fits = head.kept_fits.most in omega (arith, both, rest, fits, held.many))

  many : max (least_stored count) (used_to pages) ≡ kept
  many = elim (cases_lt (least_stored count) kept) [
    | inl lt ↦
        let at : kept ≡ suc (kept - 1) = not_none (least_stored count) kept lt in
        let full : used_to pages ≡ suc (kept - 1) = used_full pages (kept - 1) (held.many ∙ at)
        (λ none. head.kept_fits.last lt (chunk_stored (kept - 1) pages bytes held.bytes_are (omega (arith, held.many, at)) ∙ ap page_bytes none)) in
        most_is_right (least_stored count) (used_to pages) kept lt (full ∙ sym at)
    | inr le ↦ most_is_left (least_stored count) (used_to pages) kept head.kept_fits.least le (subst (λ (n : ℕ). used_to pages ≤ n) held.many (used_most pages))
  ]

  keeps : stored all ≡ kept
  keeps = (λ i. max (least_stored (size i)) ((ap used_to is ∙ used_behind pages behind) i)) ∙ many

  front : take (stored all) all ≡ pages
  front = (λ i. take (keeps i) (is i)) ∙ take_at pages (blanks behind) kept held.many

  -- they are the image's
  pub image_is : IsImage all bytes
  image_is = record {
    count = subst IsCount (sym size) head.count_fits;
    words = subst (AllByRecursion (λ page. Fits64 (page_words page))) (sym is) (all_both _ pages (blanks behind) held.words (blanks_fit behind));
    bytes_are = sym (take-append-drop 32 bytes) ∙ (λ i. (head.head ∙ (λ j. head_bytes (sym size j) (sym keeps j))) i ++ (sym held.bytes_are ∙ ap (flat_map page_bytes) (sym front)) i);
  }

  pub within_is : AreWithin all
  within_is = subst (λ (n : ℕ). AllByRecursion (NamesBelow (bound_of n)) all) (sym size)
      (subst (AllByRecursion (NamesBelow (bound_of count))) (sym is) (all_both _ pages (blanks behind) held.within (blanks_below (bound_of count) behind)))

-- an image is read unless memory runs out
pub read_fault : (f : ImageFault) (pages : List (Option Page)) (bytes : List ℕ) → IsFault f bytes → IsImage pages bytes → AreWithin pages → f ≡ fault.Memory
read_fault fault.Head pages bytes h image small = absurd (h (length pages) (stored pages) (head_of_image pages bytes image))
read_fault (fault.Page x) pages bytes h image small = absurd (no_page_fault pages bytes x image small h)
read_fault fault.Memory pages bytes h image small = refl
