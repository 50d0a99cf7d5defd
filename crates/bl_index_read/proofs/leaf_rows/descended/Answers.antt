use Rattle.std.proofs.Common.{◌≡◌, ap, ◌∙◌}
use Rattle.bl_index_read.proofs.leaf_rows.descended.Goals as goal
use Rattle.bl_index_read.proofs.leaf_rows.descended.Goals.{in_default-via-in-AtAnchor-1, in_default-via-in-At+else-begins_with}

pub took_words-requires-clause-page : goal.took_words-requires-clause-page
took_words-requires-clause-page g c =
    let same : c.in_default.hand ≡ c.args.hand.now = elim c.in_default.branch [ in_default-via-in-AtAnchor-1 w ↦ w.hand-is | in_default-via-in-At+else-begins_with w ↦ w.hand-is ∙ w.begins_with.ensures.same ] in
    let page = c.requires.page in
    (page.0, ap (λ hand. g.W.Words.shown c.args.source.now hand) same ∙ page.1)
