use Rattle.std.proofs.Common.{ap, sym, subst, ◌∙◌}
use Rattle.bl_page.proofs.Once.{once}
use Rattle.bl_page.specs.Nodes.{IsTreePage}
use Rattle.bl_proc_routes.proofs.Spellings.{tree_pairs, tree_lists}
use Rattle.bl_proc_routes.proofs.word_reads.row_in.Goals as goal

pub listed_in-requires-clause-pairs : goal.listed_in-requires-clause-pairs
listed_in-requires-clause-pairs g c = tree_pairs c.requires.page.0 (g.W.Words.shown c.args.source.now c.args.hand.now) c.requires.page.1 c.requires.page.2

pub returns-clause-row : goal.returns-clause-row
returns-clause-row g c = λ p e.
    let same = once c.requires.page.0 p (sym c.requires.page.2 ∙ e) in
    c.listed_in.ensures.listed ∙ ap (λ look. look c.args.key) (tree_lists p (g.W.Words.shown c.args.source.now c.args.hand.now) (subst IsTreePage same c.requires.page.1) e)
