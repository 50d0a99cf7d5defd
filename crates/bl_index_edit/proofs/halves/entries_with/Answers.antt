use Rattle.std.proofs.Common.{◌≤◌, length, sym, subst, ◌∙◌}
use Rattle.bl_page.specs.declared.page.Page.{Page}
use Rattle.bl_page.proofs.Once.{once}
use Rattle.bl_page.specs.Nodes.{IsTreePage}
use Rattle.bl_rearrange.specs.Rearranged.{pairs_of}
use Rattle.bl_proc_routes.proofs.Spellings.{tree_pairs}
use Rattle.bl_index_edit.proofs.Splits.{spread_full}
use Rattle.bl_index_edit.proofs.halves.entries_with.Goals as goal

pub place_in-place-requires-clause-pairs : goal.place_in-place-requires-clause-pairs
place_in-place-requires-clause-pairs c = tree_pairs c.requires.page.0 c.args.words.now c.requires.page.1 c.requires.page.2

pub returns : goal.returns
returns c = λ p e.
    let same = once c.requires.page.0 p (sym c.requires.page.2 ∙ e) in
    spread_full c.args.key c.args.word c.args.words.now c.spread_entries.new.entries c.spread_entries.array_long p c.place_in-place.result (subst IsTreePage same c.requires.page.1) e (subst (λ (q : Page). 14 ≤ length (pairs_of q)) same c.requires.page.3) c.place_in-place.ensures.place c.spread_entries.ensures
