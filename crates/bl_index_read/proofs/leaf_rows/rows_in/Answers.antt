use Rattle.std.proofs.Common.{◌≡◌, [], get_or, subst, ap, ◌∙◌, arith}
use Rattle.bl_model.proofs.Parts.{IsPlaceOf}
use Rattle.bl_page.specs.Faults.{pairs_of, count_in}
use Rattle.bl_index_read.proofs.Picked.{count_is, taken_more, all_rows}
use Rattle.bl_index_read.proofs.leaf_rows.rows_in.Goals as goal

pub loop-place-preserved : goal.loop-place-preserved
loop-place-preserved g c =
    let shown = g.W.Words.shown c.args.source.now in
    let words = shown c.args.hand.now in
    let inv = c.loop-place.invariant in
    let n = count_is words (g.W.Words.long _ _ c.requires.sees) c.requires.pairs in
    let row : c.row_at-row.result ≡ get_or (pairs_of words) c.loop-place.place (0, 0) = c.row_at-row.ensures.row ∙ ap (λ hand. get_or (pairs_of (shown hand)) c.loop-place.place (0, 0)) inv.same in
    record {
      same = c.row_at-row.ensures.same ∙ inv.same;
      grown = c.push.ensures.items ∙ taken_more (pairs_of words) [] _ c.place_from-first.result c.loop-place.place c.row_at-row.result (omega arith) (omega (arith, n, c.word.ensures.word)) row inv.grown;
    }

pub returns-clause-rows : goal.returns-clause-rows
returns-clause-rows g c =
    let shown = g.W.Words.shown c.args.source.now in
    let words = shown c.args.hand.now in
    let inv = c.loop-place.invariant in
    let place = subst (λ hand. IsPlaceOf (pairs_of (shown hand)) c.args.from c.place_from-first.result) c.word.ensures.same c.place_from-first.ensures.place in
    let n = count_is words (g.W.Words.long _ _ c.requires.sees) c.requires.pairs in
    let all : c.loop-place.place ≡ count_in words = let low = place.in_range in omega (arith, c.word.ensures.word) in
    inv.grown ∙ all_rows words (g.W.Words.long _ _ c.requires.sees) c.requires.pairs c.args.from c.place_from-first.result c.loop-place.place place all
