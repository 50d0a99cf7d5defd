use Rattle.std.proofs.Common.{None, sym, subst, ◌∙◌}
use Rattle.bl_proc_steps.specs.declared.edit.Edit.TheVariants as edit
use Rattle.bl_proc_writes.specs.declared.writing.WriteStage.TheVariants as write
use Rattle.bl_store.specs.Hands.{known, IsSameHand}
use Rattle.bl_store.specs.declared.store.Hand.{Hand}
use Rattle.bl_index_rule.specs.declared.known.PassState.{PassState}
use Rattle.bl_index_events.specs.Held.{IsFull}
use Rattle.bl_index_events.specs.Runs.{IsOn, IsSince}
use Rattle.bl_index_events.proofs.Held.{keeps_held}
use Rattle.bl_index_events.proofs.Rooms.{lacks_split, refused_on}
use Rattle.bl_index_events.proofs.Standing.{on_as}
use Rattle.bl_index_edit.proofs.Written.{enters_full, unthinned, opens_changed, left_refused}
use Rattle.bl_index_edit.proofs.leaves.split_leaf.Goals as goal

pub split_full-outcome-requires-clause-full : goal.split_full-outcome-requires-clause-full
split_full-outcome-requires-clause-full g c =
    let w = c.args.writer.now in let q = c.requires in
    let f = enters_full (g.W.Writer.key_of w) (g.W.Writer.write_of w) (g.W.Writer.staged w) (g.W.Writer.opened w) (g.W.Writer.writes w) c.args.at _ _ q.leaf c.args.value q.effect q.full in
    (f.0, f.1, f.2 ∙ sym c.key-key.ensures, f.3, c.words_from-words.ensures.words ∙ f.4, subst (λ (z : Hand PassState). IsOn c.args.tree.now.store.layout (known z.seat) (g.W.Writer.staged w (write.Editing (unthinned None) (edit.Taking f.0)))) (sym c.words_from-words.ensures.same) (on_as _ _ _ q.runs.on f.5))

pub open_leaf-requires-clause-opens : goal.open_leaf-requires-clause-opens
open_leaf-requires-clause-opens g c =
    let w = c.args.writer.now in
    opens_changed (g.W.Writer.key_of w) (g.W.Writer.write_of w) (g.W.Writer.staged w) (g.W.Writer.opened w) (g.W.Writer.writes w) c.args.at (unthinned None) c.split_full-outcome.result _ _ c.by.ensures c.split_full-outcome.ensures.runs.on.state

pub returns : goal.returns
returns g c =
    let w = c.args.writer.now in let split = c.split_full-outcome in let e = c.open_leaf.ensures in
    let h = split.new.hand.seat in let h' = c.open_leaf.new.hand.seat in
    let words = c.words_from-words.ensures.same in
    record {
      same = (let s = split.ensures.same.0 in let z = subst (λ (z : Hand PassState). IsSameHand z.seat h) words s in (e.same.0 ∙ z.0, e.same.1 ∙ z.1, e.same.2 ∙ z.2));
      empty = e.empty;
      runs = e.runs;
      since = λ pass old since. e.since pass old (split.ensures.since pass old (subst (λ (z : Hand PassState). IsSince pass old (known z.seat)) (sym words) since));
      no_room = λ none.
          let asked = split.ensures.asked (left_refused (unthinned None) split.result (sym c.by.ensures ∙ (sym e.left ∙ none))) in
          lacks_split (g.W.Writer.key_of w) (g.W.Writer.write_of w) c.args.value h' c.requires.effect (refused_on h h' 1 2 e.refusal asked.0) (keeps_held 0 (g.W.Writer.key_of w) IsFull (known h) (known h') e.keeps asked.1);
    }
