use Rattle.std.proofs.Common.{ℕ, ◌≡◌, List, Option, length, map, sym, ap, subst, ◌∙◌, arith}
use Rattle.std.specs.Prelude.{IfOk}
use Rattle.bl_page.specs.declared.page.Page.{Page}
use Rattle.bl_image.specs.declared.image.Image.{Image}
use Rattle.bl_check_laws.proofs.Beginnings.{AllFit}
use Rattle.bl_image.specs.Images.{page_words}
use Rattle.bl_store.specs.Opening.{first_pages, padded}
use Rattle.bl_index_rule.specs.Simulation.{beginner, Simulates}
use Rattle.bl_index_rule.proofs.Reopened.{map_length}
use Rattle.bl_index.specs.Opened.{IsBegun, IsReopenedIn}
use Rattle.bl_index.proofs.Firsts.{if_ok}
use Rattle.bl_index.proofs.Reopening.{rule_of, seen_of, is_reopened}
use Rattle.bl_index.proofs.index.Index.made_of.Goals as goal

pub begun-requires-clause-pages : goal.begun-requires-clause-pages
begun-requires-clause-pages c =
    let long : c.len-pages.result ≡ length c.image-image.result.now.pages.items = c.len-pages.ensures ∙ c.image-image.result.now.pages.ok.0 in
    let some = c.image-image.result.now.some in
    let limit = c.image-image.result.now.limit in
    (omega (arith, long, some), omega (arith, long, limit))

pub begun-requires-clause-words : goal.begun-requires-clause-words
begun-requires-clause-words c =
    let long : c.len-pages.result ≡ length c.image-image.result.now.pages.items = c.len-pages.ensures ∙ c.image-image.result.now.pages.ok.0 in
    let count = map_length c.args.quiet.image.pages.items in
    let same = ap (λ (z : Image). length z.pages.items) c.image-image.ensures.same in
    omega (arith, count, same, long)

pub begun-requires-clause-same : goal.begun-requires-clause-same
begun-requires-clause-same c = c.of-observed.ensures ∙ sym c.of-first.ensures

pub begun-requires-clause-rule : goal.begun-requires-clause-rule
begun-requires-clause-rule c = subst (λ (z : Image). Simulates (first_pages (padded c.len-pages.result (map page_words z.pages.items)) c.args.passes (beginner c.of-first.result)))
    c.image-image.ensures.same (rule_of c.image-image.result.now c.of-first.result c.len-pages.result c.args.passes c.is_of_64_bits.ensures.fits c.image-image.ensures.sound c.of-first.ensures)

pub begun-requires-clause-seen : goal.begun-requires-clause-seen
begun-requires-clause-seen c = seen_of c.image-image.result.now c.of-first.result c.is_of_64_bits.ensures.fits c.image-image.ensures.sound c.of-first.ensures

pub returns : goal.returns
returns c =
    let image = c.image-image.result.now in
    let fits : AllFit image.pages.items = c.is_of_64_bits.ensures.fits in
    let long : c.len-pages.result ≡ length image.pages.items = c.len-pages.ensures ∙ image.pages.ok.0 in
    subst (λ (z : ℕ × List (Option Page)). IfOk c.begun.result (λ t. IsReopenedIn z.1 z.0 c.args.passes t.0 t.1.items))
    (λ i. ((long ∙ ap (λ (z : Image). length z.pages.items) c.image-image.ensures.same) i, ap (λ (z : Image). z.pages.items) c.image-image.ensures.same i))
    (if_ok _ _ c.begun.result (λ t begun. is_reopened image c.len-pages.result c.args.passes t.0 t.1.items fits c.image-image.ensures.sound
    (subst (λ (z : List (Option Page)). IsBegun z c.len-pages.result c.args.passes t.0 t.1.items) c.of-first.ensures begun)) c.begun.ensures)
