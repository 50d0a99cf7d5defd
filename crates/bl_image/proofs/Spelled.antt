-- The pages of an image, spelled one after another into an array.
use Rattle.std.proofs.Common.{◌≡◌, ℕ, ◌+◌, ◌*◌, ◌<◌, ◌≤◌, List, [], ◌∷◌, ◌++◌, length, get_or, take, Option, ap, sym, ◌∙◌, arith}
use Rattle.std.specs.Prelude.{flat_map}
use Rattle.std.proofs.lemmas.List.{append-nil, take_more, length-take-le}
use Rattle.std.proofs.lemmas.List.Concat.{flat_map-append}
use Rattle.std.proofs.Math.Seq.{take-append_seam, take-append-add}
use Rattle.bl_page.specs.declared.page.Page.{Page}
use Rattle.bl_image.specs.Images.{page_bytes}
use Rattle.bl_image.proofs.Chunks.{length-page_bytes}

pages_more : (pages : List (Option Page)) (i : ℕ) (page : Option Page) → i < length pages → page ≡ get_or pages i page → flat_map page_bytes (take (i + 1) pages) ≡ flat_map page_bytes (take i pages) ++ page_bytes page
pages_more pages i page lt is =
    ap (flat_map page_bytes) (take_more pages i page lt ∙ ap (λ p. take i pages ++ p ∷ []) (sym is)) ∙ flat_map-append page_bytes (take i pages) (page ∷ []) ∙ ap (λ t. flat_map page_bytes (take i pages) ++ t) (append-nil (page_bytes page))

pub spelled_more : (bytes piece rest : List ℕ) (at i : ℕ) (pages : List (Option Page)) (page : Option Page) → i < length pages → page ≡ get_or pages i page → at ≡ 256 * i → at ≤ length bytes → piece ≡ page_bytes page
    → take (256 * i) bytes ≡ flat_map page_bytes (take i pages) → take (256 * (i + 1)) (take at bytes ++ (piece ++ rest)) ≡ flat_map page_bytes (take (i + 1) pages)
spelled_more bytes piece rest at i pages page lt is place fits spelled so_far =
    let front = take at bytes in
    let long : length front ≡ at = length-take-le at bytes fits in
    let many : length piece ≡ 256 = ap length spelled ∙ length-page_bytes page in
    let e : 256 * (i + 1) ≡ length front + length piece = omega (arith, long, many, place) in
    let cut : take (256 * (i + 1)) (front ++ (piece ++ rest)) ≡ front ++ piece =
    ap (λ n. take n (front ++ (piece ++ rest))) e ∙ (take-append-add front (piece ++ rest) (length piece) ∙ ap (λ t. front ++ t) (take-append_seam piece rest)) in
    let begun : front ≡ flat_map page_bytes (take i pages) = ap (λ n. take n bytes) place ∙ so_far in
    cut ∙ ((λ j. begun j ++ spelled j) ∙ sym (pages_more pages i page lt is))
