use Rattle.std.proofs.Common.{sym, ◌∙◌}
use Rattle.bl_page.proofs.Spelled.{pairs_layout}
use Rattle.bl_page.proofs.parse.leaf_in.Goals as goal

pub returns-clause-ok : goal.returns-clause-ok
returns-clause-ok c = pairs_layout c.args.words.now 2 0 c.count_at-count.result c.pairs_at-rows.result.items c.told-words c.if-count-gt-MOST_PAIRS.false
    c.requires.kind (sym c.level_at.ensures ∙ c.if-level_at-ne0.false) (sym c.count_at-count.ensures) c.pairs_at-rows.ensures.pairs (c.is_zero_from.ensures.0 c.if-not-is_zero_from.false)
