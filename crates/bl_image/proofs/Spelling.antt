-- The pages that words spell, one after another.
use Rattle.std.proofs.Common.{◌≡◌, ℕ, zero, suc, ◌+◌, ◌<◌, List, [], ◌∷◌, ◌++◌, length, get_or, map, take, Option, refl, ap, sym, ◌∙◌, arith}
use Rattle.std.specs.List.{AllByRecursion}
use Rattle.std.proofs.lemmas.List.{take_more}
use Rattle.bl_page.specs.declared.page.Page.{Page}
use Rattle.bl_image.specs.Images.{page_words, IsSpelled}

pub spelled_at : (i : ℕ) (all : List (List ℕ)) → AllByRecursion IsSpelled all → i < length all → IsSpelled (get_or all i [])
spelled_at i [] h lt = absurd (omega arith)
spelled_at zero (words ∷ all) h lt = h.0
spelled_at (suc i) (words ∷ all) h lt = spelled_at i all h.1 (omega arith)

map-push : (pages : List (Option Page)) (page : Option Page) → map page_words (pages ++ page ∷ []) ≡ map page_words pages ++ page_words page ∷ []
map-push [] page = refl
map-push (first ∷ pages) page = ap (λ t. page_words first ∷ t) (map-push pages page)

pub words_more : (pages new : List (Option Page)) (page : Option Page) (all : List (List ℕ)) (i : ℕ) → i < length all → new ≡ pages ++ page ∷ [] → page_words page ≡ get_or all i [] → map page_words pages ≡ take i all → map page_words new ≡ take (i + 1) all
words_more pages new page all i lt pushed spelled so_far =
    ap (map page_words) pushed ∙ map-push pages page ∙ ap (λ t. t ++ page_words page ∷ []) so_far ∙ ap (λ w. take i all ++ w ∷ []) spelled ∙ sym (take_more all i [] lt)

pub words_push : (words new : List (List ℕ)) (w : List ℕ) (pages : List (Option Page)) (page : Option Page) (i : ℕ) → take (i + 1) pages ≡ take i pages ++ page ∷ [] → new ≡ words ++ w ∷ [] → w ≡ page_words page → words ≡ map page_words (take i pages) → new ≡ map page_words (take (i + 1) pages)
words_push words new w pages page i more pushed is so_far = pushed ∙ ((λ k. so_far k ++ is k ∷ []) ∙ (sym (map-push (take i pages) page) ∙ ap (map page_words) (sym more)))
