use Rattle.std.proofs.Common.{arith, ◌≡◌, ℕ, ◌+◌, ◌<◌, List, [], length, get_or, sym, ap, subst, ◌∙◌}
use Rattle.bl_room.specs.Blanks.{is_blank}
use Rattle.bl_store.specs.Opening.{Laid}
use Rattle.bl_store.proofs.Dealing.{laid_none, laid_blank}
use Rattle.bl_store_rule.proofs.Lists.{index_there}
use Rattle.bl_store.proofs.opening.lay.Goals as goal
use Rattle.bl_store.proofs.opening.lay.Goals.{then-not-is_all_zeros, else-not-is_all_zeros}

pub loop-page-init : goal.loop-page-init
loop-page-init g c = let first = g.F.FirstWords.contents c.args.first.now in
    subst (λ (z : List ℕ). Laid c.args.layout first z 0) (sym c.requires.words) (laid_none c.args.layout first)

pub loop-page-preserved : goal.loop-page-preserved
loop-page-preserved g c =
    let first = g.F.FirstWords.contents c.args.first.now in let page = c.loop-page.page in
    let inside : page < length first = omega (arith, c.loop-page-test.true, c.count-page-end.ensures) in
    let low : page < c.args.layout.pages = omega (arith, inside, c.requires.pages) in
    let here = index_there first page [] inside in
    let same : c.words_of-contents.result ≡ get_or first page [] = c.words_of-contents.ensures.same in
    elim c.if-not-is_all_zeros.branch [
      | then-not-is_all_zeros w ↦ subst (λ (z : List ℕ). Laid c.args.layout first z (page + 1)) (sym w.words-is) w.lay_page.ensures
      | else-not-is_all_zeros w ↦ subst (λ (z : List ℕ). Laid c.args.layout first z (page + 1)) (sym w.words-is)
          (laid_blank c.args.layout first c.loop-page.words page (get_or first page []) low here (ap length (sym same) ∙ c.words_of-contents.ensures.long)
          (ap is_blank (sym same) ∙ (sym c.is_all_zeros.ensures ∙ w.if-not-is_all_zeros.false)) c.loop-page.invariant)
    ]
