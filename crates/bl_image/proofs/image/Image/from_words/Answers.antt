use Rattle.std.proofs.Common.{rules, ◌+◌, length, ap, sym, subst, ◌∙◌, arith}
use Rattle.std.specs.List.{AllByRecursion}
use Rattle.std.proofs.lemmas.List.{length_push, take_all}
use Rattle.bl_image.specs.Images.{Fits64, page_words}
use Rattle.bl_image.proofs.Chunks.{fit_more}
use Rattle.bl_image.proofs.Spelling.{spelled_at, words_more}
use Rattle.bl_image.proofs.image.Image.from_words.Goals as goal

pub page_of-requires : goal.page_of-requires
page_of-requires c = spelled_at c.loop-page.page-index c.args.words.now c.requires.spelled (omega (arith, c.loop-page-test.true))

pub loop-page-preserved : goal.loop-page-preserved
loop-page-preserved c = let inv = c.loop-page.invariant in let pushed = c.push_reserved.ensures.items in let size = inv.count in let test = c.loop-page-test.true in record {
  count = ap length pushed ∙ length_push c.loop-page.pages.items c.page_of.result ∙ ap (λ n. n + 1) inv.count;
  room = search rules;
  spelled = words_more c.loop-page.pages.items c.push_reserved.new.self.items c.page_of.result c.args.words.now c.loop-page.page-index (omega (arith, test)) pushed c.page_of.ensures.words inv.spelled;
  fits = subst (AllByRecursion (λ page. Fits64 (page_words page))) (sym pushed) (fit_more c.loop-page.pages.items c.page_of.result inv.fits (subst Fits64 (sym c.page_of.ensures.words) c.page_of.ensures.fits));
}

pub returns-clause-words : goal.returns-clause-words
returns-clause-words c = c.loop-page.invariant.spelled ∙ take_all c.loop-page.page-index c.args.words.now (omega (arith, c.loop-page-test.false))
