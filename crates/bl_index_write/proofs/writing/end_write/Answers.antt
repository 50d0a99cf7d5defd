use Rattle.std.proofs.Common.{sym, ap, ◌∙◌}
use Rattle.bl_proc_writes.specs.declared.writing.WriteStage.TheVariants as write
use Rattle.bl_proc_writes.specs.Writes.{write_answer}
use Rattle.bl_proc_deterministic.specs.Frames.{op_of, work_of}
use Rattle.bl_index_write.specs.Events.{writing}
use Rattle.bl_index_edit.specs.Writers.{left_reply}
use Rattle.bl_index_edit.proofs.Written.{refused_reply, lacks_same}
use Rattle.bl_index_write.proofs.Alone.{ends_alone}
use Rattle.bl_index_events.proofs.Standing.{on_itself}
use Rattle.bl_index_write.proofs.writing.end_write.Goals as goal

pub conclude-requires-clause-runs : goal.conclude-requires-clause-runs
conclude-requires-clause-runs c = let runs = c.write_there-left.ensures.runs in record { own = runs.own; running = runs.running; on = on_itself _ _ _ runs.on }

pub conclude-requires-clause-ends : goal.conclude-requires-clause-ends
conclude-requires-clause-ends c = (writing c.args.key c.args.write (write.Over (left_reply c.write_there-left.result)), ends_alone c.args.key c.args.write (left_reply c.write_there-left.result) _ c.write_there-left.ensures.runs.on.state)

pub returns-clause-wrote : goal.returns-clause-wrote
returns-clause-wrote c = λ pass old since.
    let key = c.args.key in let does = c.args.write in let r = left_reply c.write_there-left.result in let state = c.write_there-left.ensures.runs.on.state in
    record {
      reply = r;
      done = c.conclude.ensures.done pass old (writing key does write.New) (writing key does (write.Over r)) (c.write_there-left.ensures.since pass old since) (ends_alone key does r _ state) (ap op_of state) (ap work_of state);
      answer = ap (write_answer does) (sym c.reply.ensures) ∙ c.answer_of.ensures.answer;
    }

pub returns-clause-no_room : goal.returns-clause-no_room
returns-clause-no_room c = λ none. lacks_same c.args.key c.args.write c.write_there-left.new.hand.seat c.conclude.new.hand.seat c.conclude.ensures.refusal c.conclude.ensures.keeps (c.write_there-left.ensures.no_room (refused_reply c.write_there-left.result (sym c.reply.ensures ∙ c.answer_of.ensures.no_room none)))
