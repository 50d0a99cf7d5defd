use Rattle.std.proofs.Common.{rules, arith, ◌≡◌, ℕ, ◌<◌, List, [], length, get_or, sym, ap, subst, ◌∙◌}
use Rattle.bl_room.specs.Blanks.{is_blank}
use Rattle.bl_store.proofs.Dealing.{Drafting, drafting, drafts_on, laid_open}
use Rattle.bl_store_rule.proofs.Lists.{index_there}
use Rattle.bl_store.proofs.opening.lay_page.Goals as goal

pub loop-place-init : goal.loop-place-init
loop-place-init g c = let first = g.F.FirstWords.contents c.args.first.now in let low : c.args.page < c.args.layout.pages = omega (arith, c.requires.pages, c.requires.page) in
    drafting c.args.layout first c.args.words.now c.args.page c.frame_owner_cell.result _ low (search rules) c.requires.laid

pub loop-place-preserved : goal.loop-place-preserved
loop-place-preserved g c = let first = g.F.FirstWords.contents c.args.first.now in let low : c.args.page < c.args.layout.pages = omega (arith, c.requires.pages, c.requires.page) in
    drafts_on c.args.layout first c.loop-place.words c.args.page c.frame_word_cell.result c.loop-place.place _ low (search rules) (omega arith) (search rules) c.loop-place.invariant

pub returns : goal.returns
returns g c =
    let auto = c.loop-place.auto in let whole : c.loop-place.place ≡ 32 = omega arith in
    let first = g.F.FirstWords.contents c.args.first.now in let xs : List ℕ = get_or first c.args.page [] in
    let inside : c.args.page < length first = c.requires.page in let low : c.args.page < c.args.layout.pages = omega (arith, c.requires.pages, inside) in
    let same : c.args.contents.now ≡ xs = c.requires.contents.0 in
    laid_open c.args.layout first c.loop-place.words c.args.page c.page_cell.result c.page_owner_cell.result _ xs low (search rules) (search rules) (search rules) (index_there first c.args.page [] inside)
    (ap length (sym same) ∙ c.told-contents) (ap is_blank (sym same) ∙ c.requires.contents.1)
    (subst (λ (z : ℕ × List ℕ). Drafting c.args.layout first c.loop-place.words c.args.page z.0 z.1) (λ i. (whole i, same i)) c.loop-place.invariant)
