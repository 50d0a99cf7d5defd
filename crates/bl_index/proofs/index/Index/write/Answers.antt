use Rattle.std.proofs.Common.{Some, refl, ap, subst}
use Rattle.bl_model.specs.Replies.{reply_of}
use Rattle.bl_model.specs.Writes.{write_op}
use Rattle.bl_answers.specs.declared.answers.Answer.TheVariants.{Op}
use Rattle.bl_store.specs.Hands.{known}
use Rattle.bl_index_write.specs.Events.{HasWritten}
use Rattle.bl_index.specs.Calls.{number_of}
use Rattle.bl_index.proofs.Taken.{same_pass, of_inside}
use Rattle.bl_index_events.proofs.Ends.{op_answered, op_beside, done_first}
use Rattle.bl_index.proofs.Alone.{steps_alone}
use Rattle.bl_index.proofs.Changes.{change_unhinted, write_lacks}
use Rattle.bl_index.specs.contracts.index.Pass as view
use Rattle.bl_index.proofs.index.Index.write.Goals as goal

pub returns-clause-writes : goal.returns-clause-writes
returns-clause-writes g c =
    let own = of_inside c.self.view_is c.pass.view_is c.requires in rw (← c.self.view_is, ← c.pass.view_is) (
    let wrote = c.write_key.ensures.wrote in
    record {
      answers = op_answered _ _ _ _ _ _ _ _ _ wrote.done own.2 refl (ap Some wrote.answer);
      latches = wrote.done.tidy;
      hint = op_beside _ _ _ _ _ _ _ wrote.done (ap Some wrote.answer);
    })

pub returns-clause-unhinted : goal.returns-clause-unhinted
returns-clause-unhinted g c =
    λ old new is.
    let wrote = c.write_key.ensures.wrote in
    change_unhinted c.args.write old new wrote.reply _ _ _ is wrote.answer (op_beside _ _ _ _ _ _ _ wrote.done (ap Some wrote.answer))

pub returns-clause-alone : goal.returns-clause-alone
returns-clause-alone g c = let own = of_inside c.self.view_is c.pass.view_is c.requires in rw (← c.self.view_is, ← c.pass.view_is) (let e = c.write_key.ensures in steps_alone c.self.inside.tree (view.the_view c.pass.inside) c.write_key.new.hand.seat (write_op c.args.key c.args.write) own e.same e.rests.within _ (op_answered _ _ _ _ _ _ _ _ _ e.wrote.done own.2 refl (ap Some e.wrote.answer)))

pub returns-clause-same : goal.returns-clause-same
returns-clause-same g c = rw (← c.pass.view_is) (let e = c.write_key.ensures in same_pass c.pass.inside.hand c.write_key.new.hand e.same (done_first _ _ _ _ _ e.wrote.done))

pub invariant_of-pass-inside : goal.invariant_of-pass-inside
invariant_of-pass-inside g c = let e = c.write_key.ensures in (e.rests.idle, (e.empty, (e.rests.within, (e.rests.over, (∣ e.wrote.done.observed.notes.seen ∣₁, tt)))))

pub returns-clause-no_room : goal.returns-clause-no_room
returns-clause-no_room g c =
    let own = of_inside c.self.view_is c.pass.view_is c.requires in rw (← c.pass.view_is) (
    λ none.
    let e = c.write_key.ensures in let hint = c.write_key.result.1 in
    let wrote = subst (λ z. HasWritten (number_of (view.the_view c.pass.inside)) (known c.pass.inside.hand.seat) (known c.write_key.new.hand.seat) c.args.key c.args.write (Op (reply_of z) hint)) none e.wrote in
    write_lacks _ (view.the_view c.pass.inside) c.write_key.new.hand c.args.key c.args.write hint wrote own.2 (e.no_room none))
