use Rattle.std.proofs.Common.{ap, sym, subst, ◌∙◌}
use Rattle.std.specs.Prelude.{IsSome}
use Rattle.bl_model.specs.Rows.{map_of}
use Rattle.bl_rearrange.specs.Entered.{replaced}
use Rattle.bl_rearrange.specs.Rearranged.{pairs_of}
use Rattle.bl_proc_routes.specs.WordEdits.{words_by}
use Rattle.bl_proc_steps.specs.declared.edit.Edit.TheVariants as edit
use Rattle.bl_proc_writes.specs.declared.writing.WriteStage.TheVariants as write
use Rattle.bl_store.specs.Hands.{known}
use Rattle.bl_store.specs.declared.store.Hand.{Hand}
use Rattle.bl_index_rule.specs.declared.known.PassState.{PassState}
use Rattle.bl_index_events.specs.Runs.{IsOn}
use Rattle.bl_index_events.proofs.Standing.{on_as}
use Rattle.bl_index_edit.proofs.Written.{stands_replacing, unthinned}
use Rattle.bl_index_edit.proofs.leaves.replace_value.Goals as goal

pub words_with_value-requires-clause-page : goal.words_with_value-requires-clause-page
words_with_value-requires-clause-page g c =
    let w = c.args.writer.now in let q = c.requires in let here = q.leaf.here in
    let stands = stands_replacing (g.W.Writer.key_of w) (g.W.Writer.write_of w) (g.W.Writer.staged w) (g.W.Writer.opened w) (g.W.Writer.writes w) c.args.at c.args.there _ _ q.leaf c.args.value q.effect in
    (here.page, here.leads.0, here.is, subst (λ k. IsSome (map_of (pairs_of here.page) k)) (sym c.key.ensures) stands.1)

pub put_leaf-requires-clause-page : goal.put_leaf-requires-clause-page
put_leaf-requires-clause-page g c =
    let w = c.args.writer.now in let q = c.requires in let here = q.leaf.here in
    let stands = stands_replacing (g.W.Writer.key_of w) (g.W.Writer.write_of w) (g.W.Writer.staged w) (g.W.Writer.opened w) (g.W.Writer.writes w) c.args.at c.args.there _ _ q.leaf c.args.value q.effect in
    let words = c.words_with_value.ensures.words here.page here.is ∙ (ap (λ k. words_by here.page (replaced k c.args.value (pairs_of here.page))) c.key.ensures ∙ sym stands.2) in
    (stands.0, words, subst (λ (z : Hand PassState). IsOn c.args.tree.now.store.layout (known z.seat) (g.W.Writer.staged w (write.Editing (unthinned c.args.there) (edit.Putting c.args.at stands.0)))) (sym c.words_with_value.ensures.same) (on_as _ _ _ q.runs.on stands.3))
