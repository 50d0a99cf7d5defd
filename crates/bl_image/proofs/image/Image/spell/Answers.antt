use Rattle.std.proofs.Common.{◌≡◌, ◌-◌, ◌++◌, sym, ap, subst, length, take, drop, ◌∙◌, length-append, arith}
use Rattle.std.specs.Prelude.{flat_map}
use Rattle.std.specs.List.{AllByRecursion}
use Rattle.std.proofs.lemmas.List.{append-nil, length-take-le, length-drop, take_at, drop_at, drop_all}
use Rattle.bl_image.specs.Images.{Fits64, page_words, head_bytes, page_bytes, stored}
use Rattle.bl_image.proofs.Stored.{all_fit}
use Rattle.bl_image.proofs.Wholes.{stored_size}
use Rattle.bl_image.proofs.image.Image.spell.Goals as goal

pub slice_bounds-copy_from_slice-end-2 : goal.slice_bounds-copy_from_slice-end-2
slice_bounds-copy_from_slice-end-2 c = (let l = c.requires in let t = length-take-le 32 c.args.bytes.now (omega (arith, l)) in omega (arith, t))

pub copy_from_slice-requires : goal.copy_from_slice-requires
copy_from_slice-requires c = (let l = c.requires in let t = length-take-le 32 c.args.bytes.now (omega (arith, l)) in t ∙ ap length (sym c.head_of.ensures))

-- the pages that are spelled are those that are stored
pub spell_pages-requires : goal.spell_pages-requires
spell_pages-requires c =
    let pages = c.args.self.now.pages.items in
    let bytes = c.args.bytes.now in
    let behind = drop 32 bytes in
    let slice : take c.stored-stored.result c.as_slice.result.now ≡ take (stored pages) pages = (λ i. take (c.stored-stored.ensures.same i) (c.as_slice.ensures.value i)) in
    let many : length (take c.stored-stored.result c.as_slice.result.now) ≡ stored pages = ap length slice ∙ stored_size pages c.args.self.now.some in
    let front = c.copy_from_slice.new.self in
    let after : front ≡ head_bytes c.len.result c.stored-stored.result = c.copy_from_slice.ensures.after ∙ c.head_of.ensures in
    let wide : length front ≡ 32 = ap length after in
    let rest : drop 32 (front ++ behind) ≡ behind = drop_at front behind 32 wide in
    let whole : length (front ++ behind) - 32 ≡ length behind = omega (arith, length-append front behind, wide) in
    let cut : length (take (length (front ++ behind) - 32) (drop 32 (front ++ behind))) ≡ length behind = (λ i. length (take (whole i) (rest i))) ∙ length-take-le (length behind) behind (omega arith) in
    let l = c.requires in
    cut ∙ omega (arith, length-drop 32 bytes, l, many)

pub returns : goal.returns
returns c =
    let pages = c.args.self.now.pages.items in
    let slice : take c.stored-stored.result c.as_slice.result.now ≡ take (stored pages) pages = (λ i. take (c.stored-stored.ensures.same i) (c.as_slice.ensures.value i)) in
    let same = c.stored-stored.ensures.same in
    let count : c.len.result ≡ length pages = c.len.ensures ∙ (sym c.as_slice.ensures.len ∙ ap length c.as_slice.ensures.value) in
    let front = c.copy_from_slice.new.self in
    let after : front ≡ head_bytes (length pages) (stored pages) = c.copy_from_slice.ensures.after ∙ (c.head_of.ensures ∙ (λ i. head_bytes (count i) (same i))) in
    let all = front ++ drop 32 c.args.bytes.now in
    let first : take 32 all ≡ head_bytes (length pages) (stored pages) = take_at front (drop 32 c.args.bytes.now) 32 (ap length after) ∙ after in
    let last = drop_all (length all - 32) (drop 32 all) (omega (arith, length-drop 32 all)) in
    let fits = subst (AllByRecursion (λ page. Fits64 (page_words page))) slice c.spell_pages.ensures.fit in
    let body = c.spell_pages.ensures.bytes ∙ ap (flat_map page_bytes) slice in
    record {
      count = (c.args.self.now.some, c.args.self.now.limit);
      words = all_fit pages fits;
      bytes_are = (λ i. first i ++ (body i ++ last i)) ∙ ap (λ t. head_bytes (length pages) (stored pages) ++ t) (append-nil (flat_map page_bytes (take (stored pages) pages)));
    }
