use Rattle.std.proofs.Common.{◌≡◌, ◌-◌, get_or, take, reverse, subst, ap, ◌∙◌, arith}
use Rattle.std.proofs.lemmas.Grind.{common_steps}
use Rattle.bl_model.proofs.Falling.{IsCountTo, lists_down}
use Rattle.bl_page.specs.Faults.{pairs_of}
use Rattle.bl_proc.proofs.Rising.{rising_keys, taken_back}
use Rattle.bl_index_read.proofs.leaf_rows.rows_down_in.Goals as goal

pub loop-done-preserved : goal.loop-done-preserved
loop-done-preserved g c =
    let shown = g.W.Words.shown c.args.source.now in
    let words = shown c.args.hand.now in
    let inv = c.loop-done.invariant in
    let count : IsCountTo (pairs_of words) c.args.from c.count_to-last.result = subst (λ hand. IsCountTo (pairs_of (shown hand)) c.args.from c.count_to-last.result) c.word.ensures.same c.count_to-last.ensures.count in
    let row : c.row_at-row.result ≡ get_or (pairs_of words) (c.count_to-last.result - 1 - c.loop-done.done) (0, 0) = c.row_at-row.ensures.row ∙ ap (λ hand. get_or (pairs_of (shown hand)) (c.count_to-last.result - 1 - c.loop-done.done) (0, 0)) inv.same in
    record {
      same = c.row_at-row.ensures.same ∙ inv.same;
      taken = c.push.ensures.items ∙ taken_back (pairs_of words) _ c.count_to-last.result c.loop-done.done c.row_at-row.result (omega arith) count.in_range row inv.taken;
    }

pub returns-clause-rows : goal.returns-clause-rows
returns-clause-rows g c =
    let shown = g.W.Words.shown c.args.source.now in
    let words = shown c.args.hand.now in
    let inv = c.loop-done.invariant in
    let count : IsCountTo (pairs_of words) c.args.from c.count_to-last.result = subst (λ hand. IsCountTo (pairs_of (shown hand)) c.args.from c.count_to-last.result) c.word.ensures.same c.count_to-last.ensures.count in
    let all : c.loop-done.rows.items ≡ reverse (take c.count_to-last.result (pairs_of words)) = grind (arith, common_steps, inv.taken, count.in_range) in
    lists_down (pairs_of words) (rising_keys 0 (pairs_of words) c.requires.pairs.rises) c.args.from c.count_to-last.result count c.loop-done.rows.items all
