-- Writing the pages of an image one after another.
use Rattle.std.proofs.Common.{◌≡◌, ℕ, zero, suc, ◌+◌, ◌<◌, List, [], ◌∷◌, ◌++◌, length, get_or, take, drop, Option, ap, sym, subst, ◌∙◌, append_assoc, arith}
use Rattle.std.specs.Prelude.{flat_map}
use Rattle.std.specs.List.{AllByRecursion}
use Rattle.std.specs.Io.KnownBytes.{Appends, Keeps}
use Rattle.std.proofs.KnownBytes.{Appends-trans, Appends-kept}
use Rattle.std.proofs.lemmas.List.{append-nil, take_more}
use Rattle.std.proofs.lemmas.List.Concat.{flat_map-append}
use Rattle.bl_model.specs.Stream.{StartsOut}
use Rattle.bl_model.proofs.Beginnings.{beginning_behind, beginning_whole}
use Rattle.bl_page.specs.declared.page.Page.{Page}
use Rattle.bl_image.specs.Images.{word_bytes, page_words, page_bytes, Fits64}
use Rattle.bl_image.proofs.Chunks.{fit_more}

-- the pages before one, that page, and those behind it
split_at : (pages : List (Option Page)) (i : ℕ) (page : Option Page) → i < length pages → page ≡ get_or pages i page
    → flat_map page_bytes pages ≡ flat_map page_bytes (take i pages) ++ (page_bytes page ++ flat_map page_bytes (drop (i + 1) pages))
split_at [] i page lt is = absurd (omega arith)
split_at (first ∷ pages) zero page lt is = ap (λ p. page_bytes p ++ flat_map page_bytes pages) (sym is)
split_at (first ∷ pages) (suc i) page lt is =
    let e : suc i + 1 ≡ suc (i + 1) = omega arith in
    ap (λ t. page_bytes first ++ t) (split_at pages i page (omega arith) is) ∙ sym (append_assoc (page_bytes first) (flat_map page_bytes (take i pages)) (page_bytes page ++ flat_map page_bytes (drop (i + 1) pages)))
    ∙ ap (λ n. page_bytes first ++ flat_map page_bytes (take i pages) ++ (page_bytes page ++ flat_map page_bytes (drop n (first ∷ pages)))) (sym e)

pub page_begun : (a b c : Option (List ℕ)) (pages : List (Option Page)) (i : ℕ) (page : Option Page) (words bytes : List ℕ) → i < length pages → page ≡ get_or pages i page
    → words ≡ page_words page → bytes ≡ word_bytes words → Appends a b (flat_map page_bytes (take i pages)) → StartsOut b c bytes → StartsOut a c (flat_map page_bytes pages)
page_begun a b c pages i page words bytes lt is spelled given h k =
    let piece : StartsOut b c (page_bytes page) = subst (λ t. StartsOut b c t) (given ∙ ap word_bytes spelled) k in
    subst (λ t. StartsOut a c t) (sym (split_at pages i page lt is)) (beginning_behind a b c _ (page_bytes page) _ h piece)

pub page_written : (a b c : Option (List ℕ)) (pages : List (Option Page)) (i : ℕ) (page : Option Page) (words bytes : List ℕ) → i < length pages → page ≡ get_or pages i page
    → words ≡ page_words page → bytes ≡ word_bytes words → Appends a b (flat_map page_bytes (take i pages)) → Appends b c bytes → Appends a c (flat_map page_bytes (take (i + 1) pages))
page_written a b c pages i page words bytes lt is spelled given h k =
    let piece : Appends b c (page_bytes page) = subst (λ t. Appends b c t) (given ∙ ap word_bytes spelled) k in
    let more : flat_map page_bytes (take (i + 1) pages) ≡ flat_map page_bytes (take i pages) ++ page_bytes page =
    ap (flat_map page_bytes) (take_more pages i page lt ∙ ap (λ p. take i pages ++ p ∷ []) (sym is)) ∙ flat_map-append page_bytes (take i pages) (page ∷ []) ∙ ap (λ t. flat_map page_bytes (take i pages) ++ t) (append-nil (page_bytes page)) in
    subst (λ t. Appends a c t) (sym more) (Appends-trans a b c _ (page_bytes page) h piece)

pub page_fits : (pages : List (Option Page)) (i : ℕ) (page : Option Page) (words : List ℕ) → i < length pages → page ≡ get_or pages i page → words ≡ page_words page → Fits64 words
    → AllByRecursion (λ page. Fits64 (page_words page)) (take i pages) → AllByRecursion (λ page. Fits64 (page_words page)) (take (i + 1) pages)
page_fits pages i page words lt is spelled fits h =
    subst (AllByRecursion (λ page. Fits64 (page_words page))) (sym (take_more pages i page lt ∙ ap (λ p. take i pages ++ p ∷ []) (sym is))) (fit_more (take i pages) page h (subst Fits64 spelled fits))

-- the head, and then the pages

pub pages_begun : (a b c : Option (List ℕ)) (head pages : List ℕ) → Appends a b head → StartsOut b c pages → StartsOut a c (head ++ pages)
pages_begun a b c head pages h k = subst (λ t. StartsOut a c (head ++ t)) (append-nil pages) (beginning_behind a b c head pages [] h k)

pub all_written : (a b c d : Option (List ℕ)) (head pages : List ℕ) → Appends a b head → Appends b c pages → Keeps c d → Appends a d (head ++ pages)
all_written a b c d head pages h k l = Appends-kept a c d (head ++ pages) (Appends-trans a b c head pages h k) l

pub all_begun : (a b c d : Option (List ℕ)) (head pages : List ℕ) → Appends a b head → Appends b c pages → Keeps c d → StartsOut a d (head ++ pages)
all_begun a b c d head pages h k l = beginning_whole a c d (head ++ pages) (Appends-trans a b c head pages h k) l
