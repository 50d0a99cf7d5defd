use Rattle.std.proofs.Common.{◌≡◌, ℕ, subst, arith}
use Rattle.bl_index.specs.Resized.{Resizes}
use Rattle.bl_index.proofs.Resized.{resizes}
use Rattle.bl_serve_ground.specs.Growing.GoesOnWith.{Lays, Returns}
use Rattle.bl_serve_ground.proofs.LaidAnew.{shrinks}
use Rattle.bl_serve_ground.proofs.shrinking.shrunk.Goals as goal

pub returns-in-Ok-open_image : goal.returns-in-Ok-open_image
returns-in-Ok-open_image c =
    let passes = c.requires.count in let all = c.args.passes.ok in let count = c.in-Ok.ensures in
    Lays (shrinks c.args.index c.args.passes.items c.in-Ok-close.quiet.image.pages.items c.in-Ok-laid_out.laid.image.pages.items c.args.pages c.in-Ok.count
    c.in-Ok-open_image.opened.0 c.in-Ok-open_image.opened.1.items (omega (arith, passes, all, count)) c.in-Ok-close.ensures.ok c.in-Ok-laid_out.ensures c.in-Ok-open_image.ensures.ok)

-- it is opened again from its image, which has as many pages
pub returns-in-Ok-open_image-2 : goal.returns-in-Ok-open_image-2
returns-in-Ok-open_image-2 c =
    let passes = c.requires.count in let all = c.args.passes.ok in let count = c.in-Ok.ensures in
    let new = c.in-Ok-open_image-2.opened.0 in let news = c.in-Ok-open_image-2.opened.1.items in
    Returns (subst (λ (n : ℕ). Resizes c.args.index c.args.passes.items n new news) c.in-Ok-close.ensures.ok.count
    (resizes c.args.index c.args.passes.items c.in-Ok-close.quiet.image.pages.items _ c.in-Ok.count new news (omega (arith, passes, all, count)) c.in-Ok-close.ensures.ok c.in-Ok-open_image-2.ensures.ok))
