use Rattle.std.proofs.Common.{sym, ap, subst, ◌∙◌, ◌≡◌, ◌+◌, ◌<◌, ◌++◌, Option, [], ◌∷◌, length, take, map, arith}
use Rattle.std.specs.List.{AllByRecursion}
use Rattle.std.proofs.lemmas.List.{take_more, take_all}
use Rattle.bl_page.specs.declared.page.Page.{Page}
use Rattle.bl_image.specs.Images.{Fits64, page_words}
use Rattle.bl_image.proofs.Spelling.{words_push}
use Rattle.bl_image.proofs.Writes.{page_fits}
use Rattle.bl_image.proofs.image.words_in.Goals as goal

pub loop-page-preserved : goal.loop-page-preserved
loop-page-preserved c =
    let pages = c.args.pages.now in let i = c.loop-page.page-index in let page = c.page-item.result in
    let lt : i < length pages = omega (arith, c.loop-page-test.true) in
    let more : take (i + 1) pages ≡ take i pages ++ page ∷ [] = take_more pages i page lt ∙ ap (λ (z : Option Page). take i pages ++ z ∷ []) (sym c.page-item.is) in
    record {
      spelled = words_push c.loop-page.words.items c.push.new.self.items c.words_of.result pages page i more c.in_ok-push.ensures.items c.words_of.ensures.words c.loop-page.invariant.spelled;
      fits = page_fits pages i page c.words_of.result lt c.page-item.is c.words_of.ensures.words c.words_of.ensures.fits c.loop-page.invariant.fits;
    }

pub returns-clause-words : goal.returns-clause-words
returns-clause-words c = c.loop-page.invariant.spelled ∙ ap (map page_words) (take_all c.loop-page.page-index c.args.pages.now c.loop-page-test.false)

pub returns-clause-fits : goal.returns-clause-fits
returns-clause-fits c = subst (AllByRecursion (λ page. Fits64 (page_words page))) (take_all c.loop-page.page-index c.args.pages.now c.loop-page-test.false) c.loop-page.invariant.fits
