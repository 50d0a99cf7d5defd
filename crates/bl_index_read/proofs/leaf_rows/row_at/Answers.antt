use Rattle.std.proofs.Common.{◌≡◌, ◌+◌, ◌*◌, get_or, sym, ap, ◌∙◌}
use Rattle.bl_index_read.proofs.Picked.{row_read}
use Rattle.bl_index_read.proofs.leaf_rows.row_at.Goals as goal

pub returns-clause-row : goal.returns-clause-row
returns-clause-row g c =
    let words = g.W.Words.shown c.args.source.now c.args.hand.now in
    let place = c.args.place in
    let key = c.word-key.ensures.word in
    let value : c.word-value.result ≡ get_or words (5 + 2 * place) 0 = c.word-value.ensures.word ∙ ap (λ hand. get_or (g.W.Words.shown c.args.source.now hand) (5 + 2 * place) 0) c.word-key.ensures.same in
    (λ i. (key i, value i)) ∙ sym (row_read words (g.W.Words.long _ _ c.requires.sees) c.requires.pairs place c.requires.place)
