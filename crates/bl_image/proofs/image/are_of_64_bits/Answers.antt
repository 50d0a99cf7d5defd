use Rattle.std.proofs.Common.{◌<◌, length, subst, arith}
use Rattle.std.specs.List.{AllByRecursion}
use Rattle.std.proofs.lemmas.List.{take_all}
use Rattle.bl_image.specs.Images.{Fits64, page_words}
use Rattle.bl_image.proofs.Writes.{page_fits}
use Rattle.bl_image.proofs.image.are_of_64_bits.Goals as goal

pub loop-page-preserved : goal.loop-page-preserved
loop-page-preserved c =
    let pages = c.args.pages.now in let i = c.loop-page.page-index in
    let lt : i < length pages = omega (arith, c.loop-page-test.true) in
    page_fits pages i c.page-item.result c.words_of.result lt c.page-item.is c.words_of.ensures.words c.words_of.ensures.fits c.loop-page.invariant

pub returns-clause-fits : goal.returns-clause-fits
returns-clause-fits c = subst (AllByRecursion (λ page. Fits64 (page_words page))) (take_all c.loop-page.page-index c.args.pages.now c.loop-page-test.false) c.loop-page.invariant
