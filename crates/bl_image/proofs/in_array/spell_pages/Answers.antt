use Rattle.std.proofs.Common.{rules, ◌*◌, ◌<◌, length, sym, ◌∙◌, ap, subst, arith}
use Rattle.std.specs.Prelude.{flat_map}
use Rattle.std.specs.List.{AllByRecursion}
use Rattle.std.proofs.lemmas.List.{take_all}
use Rattle.bl_image.specs.Images.{Fits64, page_words, page_bytes, word_bytes}
use Rattle.bl_image.proofs.Spelled.{spelled_more}
use Rattle.bl_image.proofs.Writes.{page_fits}
use Rattle.bl_image.proofs.in_array.spell_pages.Goals as goal

pub loop-page-preserved : goal.loop-page-preserved
loop-page-preserved c =
    let inv = c.loop-page.invariant in let l = c.requires in let pages = c.args.pages.now in
    let i = c.loop-page.page-index in let page = c.page-item.result in
    let lt : i < length pages = omega (arith, c.loop-page-test.true) in
    let spelled = c.copy_from_slice.ensures.after ∙ (c.bytes_of.ensures.bytes ∙ ap word_bytes c.words_of.ensures.words) in
    record {
      at = (let a = inv.at in omega (arith, a));
      long = search rules;
      spelled = spelled_more c.loop-page.bytes c.copy_from_slice.new.self _ c.loop-page.at i pages page lt c.page-item.is inv.at (let a = inv.at in let b = inv.long in omega (arith, a, b, l, lt)) spelled inv.spelled;
      fits = page_fits pages i page c.words_of.result lt c.page-item.is c.words_of.ensures.words c.words_of.ensures.fits inv.fits;
    }

pub returns-clause-bytes : goal.returns-clause-bytes
returns-clause-bytes c =
    let inv = c.loop-page.invariant in let pages = c.args.pages.now in let i = c.loop-page.page-index in
    let all = take_all i pages c.loop-page-test.false in
    let long = inv.long in let l = c.requires in
    sym (take_all (256 * i) c.loop-page.bytes (omega (arith, long, l, c.loop-page-test.false))) ∙ (inv.spelled ∙ ap (flat_map page_bytes) all)

pub returns-clause-fit : goal.returns-clause-fit
returns-clause-fit c = subst (AllByRecursion (λ page. Fits64 (page_words page))) (take_all c.loop-page.page-index c.args.pages.now c.loop-page-test.false) c.loop-page.invariant.fits
