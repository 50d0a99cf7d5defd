use Rattle.std.proofs.Common.{◌≡◌, ℕ, refl, subst, arith}
use Rattle.bl_index.specs.Resized.{Resizes}
use Rattle.bl_index.proofs.Resized.{resizes}
use Rattle.bl_serve_ground.specs.Growing.GoesOnWith.{Stays, Returns, Opens}
use Rattle.bl_serve_ground.proofs.resizing.resized.Goals as goal

pub returns-in-Ok-resize : goal.returns-in-Ok-resize
returns-in-Ok-resize c = Opens c.in-Ok-resize.ensures.ok

pub returns-in-Err-Kept : goal.returns-in-Err-Kept
returns-in-Err-Kept c = let kept = rw c.in-Err-Kept.field-0-is at c.in-Err-Kept.ensures.fault in Stays kept.0 kept.1

-- it is opened again from its image, which has as many pages
pub returns-in-Ok-open_image : goal.returns-in-Ok-open_image
returns-in-Ok-open_image c =
    let closed = rw c.in-Err-Closed.field-0-is at c.in-Err-Closed.ensures.fault in
    let passes = c.requires.count in let all = c.args.passes.ok in let count = c.in-Ok.ensures in
    let new = c.in-Ok-open_image.opened.0 in let news = c.in-Ok-open_image.opened.1.items in
    Returns (subst (λ (n : ℕ). Resizes c.args.index c.args.passes.items n new news) closed.1.count
    (resizes c.args.index c.args.passes.items c.in-Err-Closed.quiet.image.pages.items _ c.in-Ok.count new news (omega (arith, passes, all, count)) closed.1 c.in-Ok-open_image.ensures.ok))
