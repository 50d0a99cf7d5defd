use Rattle.std.proofs.Common.{◌≡◌, ◌+◌, ◌*◌, ◌-◌, take, drop, ap, ◌∙◌, arith}
use Rattle.bl_image.proofs.Chunks.{page_found}
use Rattle.bl_image.proofs.words.page_at.Goals as goal

pub returns : goal.returns
returns c = page_found c.args.most c.page_below.result c.words_in.result _ c.words_in.ensures.count c.words_in.ensures.fits
    (c.words_in.ensures.bytes ∙ ap (λ n. take n (drop (32 + 256 * c.args.x) c.args.bytes.now)) (let e : 32 + 256 * c.args.x + 256 - (32 + 256 * c.args.x) ≡ 256 = omega arith in e))
    c.page_below.ensures.some c.page_below.ensures.below c.page_below.ensures.only
