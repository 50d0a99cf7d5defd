-- The bytes of one page among those of an image.
use Rattle.std.proofs.Common.{◌≡◌, ℕ, zero, suc, ◌+◌, ◌*◌, ◌-◌, ◌<◌, ◌≤◌, ◌^◌, List, [], ◌∷◌, ◌++◌, length, get_or, take, drop, Option, Some, None, refl, ap, sym, subst, ◌∙◌, length-append, arith}
use Rattle.std.specs.Prelude.{flat_map, replicate, IfSome, MatchOption}
use Rattle.std.specs.List.{AllByRecursion}
use Rattle.std.proofs.lemmas.Nat.{from_le_bytes-to_le_bytes_8}
use Rattle.std.proofs.lemmas.List.{append-nil, take_at, drop_at, drop-drop, length-replicate}
use Rattle.std.proofs.lemmas.List.Concat.{flat_map-append}
use Rattle.byteorder.specs.Endian.{little_bytes, little_number}
use Rattle.bl_page.specs.declared.page.Page.{Page}
use Rattle.bl_page.specs.declared.page.Page.TheVariants.{Anchor, Leaf, Inner, Dead}
use Rattle.bl_page.specs.Words.{words_of, layout, entries_of}
use Rattle.bl_page.specs.Faults.{Kind, number, kind_in}
use Rattle.bl_page.proofs.Writing.{length-entries_of}
use Rattle.bl_page.proofs.FaultLemmas.{kind_of, fits}
use Rattle.bl_page.proofs.Once.{once}
use Rattle.bl_image.specs.Images.{word_bytes, page_words, page_bytes, Fits64, NamesBelow, ArePage, chunk}

pub no_kind : (p : Page) → words_of p ≡ replicate 32 0 → ⊥
no_kind p e = let kind : kind_in (words_of p) ≡ 0 = ap kind_in e in no_number (kind_of p) (sym (fits p).is_of ∙ kind)
  where
    no_number : (k : Kind) → number k ≡ 0 → ⊥
    no_number Kind.Anchor e = omega arith
    no_number Kind.Leaf e = omega arith
    no_number Kind.Inner e = omega arith
    no_number Kind.Dead e = omega arith

abbrev none : List ℕ
none = []

read_back : (word : ℕ) (rest : List ℕ) → word < 2 ^ 64 → little_number 8 (little_bytes 8 word ++ rest) ≡ word
read_back word rest small = let back = from_le_bytes-to_le_bytes_8 word small in omega (arith, back)

pub word_bytes-same : (a b : List ℕ) → length a ≡ length b → Fits64 a → Fits64 b → word_bytes a ≡ word_bytes b → a ≡ b
word_bytes-same [] [] long small_a small_b e = refl
word_bytes-same [] (y ∷ b) long small_a small_b e = absurd (omega arith)
word_bytes-same (x ∷ a) [] long small_a small_b e = absurd (omega arith)
word_bytes-same (x ∷ a) (y ∷ b) long small_a small_b e =
    let first : x ≡ y = sym (read_back x (word_bytes a) small_a.0) ∙ ap (little_number 8) e ∙ read_back y (word_bytes b) small_b.0 in
    let rest = word_bytes-same a b (omega arith) small_a.1 small_b.1 (ap (drop 8) e) in
    ap (λ w. w ∷ a) first ∙ ap (λ t. y ∷ t) rest

pub length-word_bytes : (words : List ℕ) → length (word_bytes words) ≡ 8 * length words
length-word_bytes [] = refl
length-word_bytes (word ∷ words) = let more = length-word_bytes words in omega (arith, more)

length-layout : (first low high right : ℕ) (entries : List ℕ) → length entries ≤ 28 → length (layout first low high right entries) ≡ 32
length-layout first low high right entries few = let both = length-append entries (replicate {A = ℕ} (28 - length entries) 0) in
    let rest = length-replicate {A = ℕ} (28 - length entries) 0 in omega (arith, both, rest)

pub length-page_words : (page : Option Page) → length (page_words page) ≡ 32
length-page_words None = refl
length-page_words (Some (Anchor a)) = length-layout 0 0 0 0 a.leftmost.items (omega (arith, a.few))
length-page_words (Some (Leaf l)) = length-layout 0 0 0 0 (entries_of l.rows.items) (omega (arith, l.few, length-entries_of l.rows.items))
length-page_words (Some (Inner i)) = length-layout 0 0 0 0 (entries_of i.children.items) (omega (arith, i.few, length-entries_of i.children.items))
length-page_words (Some (Dead d)) = length-layout 0 0 0 0 [] (omega arith)

pub length-page_bytes : (page : Option Page) → length (page_bytes page) ≡ 256
length-page_bytes page = let words = length-page_words page in let bytes = length-word_bytes (page_words page) in omega (arith, words, bytes)

pub length-pages : (pages : List (Option Page)) → length (flat_map page_bytes pages) ≡ 256 * length pages
length-pages [] = refl
length-pages (page ∷ pages) = let more = length-pages pages in let one = length-page_bytes page in let both = length-append (page_bytes page) (flat_map page_bytes pages) in omega (arith, more, one, both)

pub drop-pages : (x : ℕ) (pages : List (Option Page)) → drop (256 * x) (flat_map page_bytes pages) ≡ flat_map page_bytes (drop x pages)
drop-pages zero pages = refl
drop-pages (suc x) [] = drop_none (256 * suc x)
  where
    drop_none : (n : ℕ) → drop n none ≡ none
    drop_none zero = refl
    drop_none (suc n) = refl
drop-pages (suc x) (page ∷ pages) =
    let more = drop-pages x pages in
    let e : 256 * suc x ≡ 256 + 256 * x = omega arith in
    ap (λ n. drop n (page_bytes page ++ flat_map page_bytes pages)) e ∙ sym (drop-drop (256 * x) 256 (page_bytes page ++ flat_map page_bytes pages))
    ∙ ap (drop (256 * x)) (drop_at (page_bytes page) (flat_map page_bytes pages) 256 (length-page_bytes page)) ∙ more

first_page : (x : ℕ) (pages : List (Option Page)) → x < length pages → take 256 (flat_map page_bytes (drop x pages)) ≡ page_bytes (get_or pages x None)
first_page x [] lt = absurd (omega arith)
first_page zero (page ∷ pages) lt = take_at (page_bytes page) (flat_map page_bytes pages) 256 (length-page_bytes page)
first_page (suc x) (page ∷ pages) lt = first_page x pages (omega arith)

-- the bytes of page x among those of stored pages
pub chunk_stored : (x : ℕ) (pages : List (Option Page)) (bytes : List ℕ) → flat_map page_bytes pages ≡ drop 32 bytes → x < length pages → chunk bytes x ≡ page_bytes (get_or pages x None)
chunk_stored x pages bytes is lt =
    ap (take 256) (sym (drop-drop (256 * x) 32 bytes) ∙ ap (drop (256 * x)) (sym is) ∙ drop-pages x pages) ∙ first_page x pages lt

pub fits_at : (x : ℕ) (pages : List (Option Page)) → AllByRecursion (λ page. Fits64 (page_words page)) pages → x < length pages → Fits64 (page_words (get_or pages x None))
fits_at x [] h lt = absurd (omega arith)
fits_at zero (page ∷ pages) h lt = h.0
fits_at (suc x) (page ∷ pages) h lt = fits_at x pages h.1 (omega arith)

pub below_at : (most x : ℕ) (pages : List (Option Page)) → AllByRecursion (NamesBelow most) pages → x < length pages → NamesBelow most (get_or pages x None)
below_at most x [] h lt = absurd (omega arith)
below_at most zero (page ∷ pages) h lt = h.0
below_at most (suc x) (page ∷ pages) h lt = below_at most x pages h.1 (omega arith)

pub below_more : (most : ℕ) (pages : List (Option Page)) (page : Option Page) → AllByRecursion (NamesBelow most) pages → NamesBelow most page → AllByRecursion (NamesBelow most) (pages ++ page ∷ [])
below_more most [] page h is = (is, tt)
below_more most (first ∷ pages) page h is = (h.0, below_more most pages page h.1 is)

pub take-more : (m n : ℕ) (xs : List ℕ) → take (m + n) xs ≡ take m xs ++ take n (drop m xs)
take-more zero n xs = ap (λ k. take k xs) (let e : 0 + n ≡ n = omega arith in e)
take-more (suc m) n [] = take_none (suc m + n) ∙ sym (take_none n)
  where
    take_none : (n : ℕ) → take n none ≡ none
    take_none zero = refl
    take_none (suc n) = refl
take-more (suc m) n (x ∷ xs) = let e : suc m + n ≡ suc (m + n) = omega arith in ap (λ k. take k (x ∷ xs)) e ∙ ap (λ t. x ∷ t) (take-more m n xs)

pub fits_64 : (words : List ℕ) → ((i : ℕ) → get_or words i 0 < 2 ^ 64) → Fits64 words
fits_64 [] h = tt
fits_64 (word ∷ words) h = (h 0, fits_64 words (λ i. h (suc i)))

-- words that are read from bytes are refused only where these are no page's
pub no_page : (most : ℕ) (words bytes : List ℕ) → length words ≡ 32 → Fits64 words → word_bytes words ≡ bytes → ((page : Option Page) → NamesBelow most page → words ≡ page_words page → ⊥) → ¬ ArePage most bytes
no_page most words bytes long small is refused (page, names, fits, spelled) = refused page names (word_bytes-same words (page_words page) (long ∙ sym (length-page_words page)) small fits (is ∙ spelled))

pub pages_words-same : (a b : Option Page) → page_words a ≡ page_words b → a ≡ b
pages_words-same None None e = refl
pages_words-same None (Some q) e = absurd (no_kind q (sym e))
pages_words-same (Some p) None e = absurd (no_kind p e)
pages_words-same (Some p) (Some q) e = ap Some (once p q e)

pub page_bytes-same : (a b : Option Page) → Fits64 (page_words a) → Fits64 (page_words b) → page_bytes a ≡ page_bytes b → a ≡ b
page_bytes-same a b small_a small_b e = pages_words-same a b (word_bytes-same (page_words a) (page_words b) (length-page_words a ∙ sym (length-page_words b)) small_a small_b e)

pub pages-same : (a b : List (Option Page)) → AllByRecursion (λ page. Fits64 (page_words page)) a → AllByRecursion (λ page. Fits64 (page_words page)) b → length a ≡ length b
    → flat_map page_bytes a ≡ flat_map page_bytes b → a ≡ b
pages-same [] [] small_a small_b long e = refl
pages-same [] (q ∷ b) small_a small_b long e = absurd (omega arith)
pages-same (p ∷ a) [] small_a small_b long e = absurd (omega arith)
pages-same (p ∷ a) (q ∷ b) small_a small_b long e =
    let first = sym (take_at (page_bytes p) (flat_map page_bytes a) 256 (length-page_bytes p)) ∙ ap (take 256) e ∙ take_at (page_bytes q) (flat_map page_bytes b) 256 (length-page_bytes q) in
    let rest = sym (drop_at (page_bytes p) (flat_map page_bytes a) 256 (length-page_bytes p)) ∙ ap (drop 256) e ∙ drop_at (page_bytes q) (flat_map page_bytes b) 256 (length-page_bytes q) in
    ap (λ x. x ∷ a) (page_bytes-same p q small_a.0 small_b.0 first) ∙ ap (λ t. q ∷ t) (pages-same a b small_a.1 small_b.1 (omega arith) rest)

pub fit_more : (pages : List (Option Page)) (page : Option Page) → AllByRecursion (λ page. Fits64 (page_words page)) pages → Fits64 (page_words page) → AllByRecursion (λ page. Fits64 (page_words page)) (pages ++ page ∷ [])
fit_more [] page h is = (is, tt)
fit_more (first ∷ pages) page h is = (h.0, fit_more pages page h.1 is)

-- one more page
pub bytes_more : (pages new : List (Option Page)) (page : Option Page) (x : ℕ) (bytes : List ℕ) → new ≡ pages ++ page ∷ [] → chunk bytes x ≡ page_bytes page
    → flat_map page_bytes pages ≡ take (256 * x) (drop 32 bytes) → flat_map page_bytes new ≡ take (256 * (x + 1)) (drop 32 bytes)
bytes_more pages new page x bytes is here so_far =
    let e : 256 * (x + 1) ≡ 256 * x + 256 = omega arith in
    ap (flat_map page_bytes) is ∙ flat_map-append page_bytes pages (page ∷ []) ∙ ap (λ t. flat_map page_bytes pages ++ t) (append-nil (page_bytes page))
    ∙ ap (λ t. t ++ page_bytes page) so_far ∙ ap (λ t. take (256 * x) (drop 32 bytes) ++ t) (sym here ∙ ap (take 256) (sym (drop-drop (256 * x) 32 bytes)))
    ∙ sym (take-more (256 * x) 256 (drop 32 bytes)) ∙ ap (λ n. take n (drop 32 bytes)) (sym e)

-- what the words of page x were found to be
pub page_found : (most : ℕ) (o : Option (Option Page)) (words bytes : List ℕ) → length words ≡ 32 → Fits64 words → word_bytes words ≡ bytes → IfSome o (λ page. words ≡ page_words page)
    → IfSome o (NamesBelow most) → ((page : Option Page) → NamesBelow most page → words ≡ page_words page → o ≡ Some page)
    → MatchOption o (¬ ArePage most bytes) (λ page. NamesBelow most page × Fits64 (page_words page) × (bytes ≡ page_bytes page))
page_found most None words bytes long fits is h names only = no_page most words bytes long fits is (λ page small e. let k = only page small e in absurd cc)
page_found most (Some page) words bytes long fits is h names only = (names, subst Fits64 h fits, sym is ∙ ap word_bytes h)
