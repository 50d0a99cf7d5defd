use Rattle.std.proofs.Common.{ℕ, List, Option, length, sym, ap, subst, ◌∙◌, arith}
use Rattle.std.specs.Prelude.{IfOk}
use Rattle.bl_page.specs.declared.page.Page.{Page}
use Rattle.bl_image.specs.declared.image.Image.{Image}
use Rattle.bl_check_laws.proofs.Beginnings.{AllFit}
use Rattle.bl_index_rule.proofs.Reopened.{map_length}
use Rattle.bl_index.specs.Opened.{IsBegun, IsReopenedIn}
use Rattle.bl_index.proofs.Firsts.{if_ok}
use Rattle.bl_index.proofs.Reopening.{rule_of, seen_of, is_reopened}
use Rattle.bl_index.proofs.index.Index.made_from.Goals as goal

pub begun-requires-clause-pages : goal.begun-requires-clause-pages
begun-requires-clause-pages c =
    let least = c.image-image.result.now.some in
    let same = ap (λ (z : Image). length z.pages.items) c.image-image.ensures.same in
    let fit = c.requires.pages.0 in
    (omega (arith, least, same, fit), c.requires.pages.1)

pub begun-requires-clause-words : goal.begun-requires-clause-words
begun-requires-clause-words c =
    let count = map_length c.image-image.result.now.pages.items in
    let same = ap (λ (z : Image). length z.pages.items) c.image-image.ensures.same in
    let fit = c.requires.pages.0 in
    omega (arith, count, same, fit)

pub begun-requires-clause-same : goal.begun-requires-clause-same
begun-requires-clause-same c = c.of-observed.ensures ∙ sym c.of-first.ensures

pub begun-requires-clause-rule : goal.begun-requires-clause-rule
begun-requires-clause-rule c = rule_of c.image-image.result.now c.of-first.result c.args.config.pages c.args.config.passes c.is_of_64_bits.ensures.fits c.image-image.ensures.sound c.of-first.ensures

pub begun-requires-clause-seen : goal.begun-requires-clause-seen
begun-requires-clause-seen c = seen_of c.image-image.result.now c.of-first.result c.is_of_64_bits.ensures.fits c.image-image.ensures.sound c.of-first.ensures

pub returns : goal.returns
returns c =
    let image = c.image-image.result.now in
    let fits : AllFit image.pages.items = c.is_of_64_bits.ensures.fits in
    subst (λ (z : Image). IfOk c.begun.result (λ t. IsReopenedIn z.pages.items c.args.config.pages c.args.config.passes t.0 t.1.items)) c.image-image.ensures.same
    (if_ok _ _ c.begun.result (λ t begun. is_reopened image c.args.config.pages c.args.config.passes t.0 t.1.items fits c.image-image.ensures.sound
    (subst (λ (z : List (Option Page)). IsBegun z c.args.config.pages c.args.config.passes t.0 t.1.items) c.of-first.ensures begun)) c.begun.ensures)
