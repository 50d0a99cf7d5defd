use Rattle.std.proofs.Common.{sym, subst, ◌∙◌}
use Rattle.bl_page.specs.Faults.{HasPairs}
use Rattle.bl_proc_routes.proofs.Spellings.{tree_pairs}
use Rattle.bl_index_read.proofs.Portions.{place_first}
use Rattle.bl_index_read.proofs.leaf_rows.first_from.Goals as goal

pub place_from-requires-clause-pairs : goal.place_from-requires-clause-pairs
place_from-requires-clause-pairs g c =
    let leaf = c.requires.leaf in
    subst (λ hand. HasPairs (g.W.Words.shown c.args.source.now hand)) (sym c.word.ensures.same) (tree_pairs leaf.0 _ leaf.1 leaf.2)

pub returns-then-word-from-clause-place : goal.returns-then-word-from-clause-place
returns-then-word-from-clause-place g c =
    let leaf = c.requires.leaf in
    place_first leaf.0 _ leaf.1 leaf.2 c.args.from (sym c.word.ensures.word ∙ c.if-word-from.true)
