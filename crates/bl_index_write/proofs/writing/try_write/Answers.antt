use Rattle.std.proofs.Common.{◌∙◌}
use Rattle.bl_store.specs.Hands.{known}
use Rattle.bl_index_events.proofs.Ends.{done_first}
use Rattle.bl_index_write.proofs.GivingUp.{write_may_give_up, write_undone}
use Rattle.bl_index_write.proofs.writing.try_write.Goals as goal

pub returns-in-Ok-clause-rests : goal.returns-in-Ok-clause-rests
returns-in-Ok-clause-rests c = c.in-Ok.ensures.ended.0

pub returns-in-Ok-clause-wrote : goal.returns-in-Ok-clause-wrote
returns-in-Ok-clause-wrote c = c.in-Ok.ensures.ended.1

pub returns-in-Ok-clause-no_room : goal.returns-in-Ok-clause-no_room
returns-in-Ok-clause-no_room c = c.in-Ok.ensures.no_room

pub give_up-requires-clause-own : goal.give_up-requires-clause-own
give_up-requires-clause-own c = c.in-Err.ensures.underway.1.own

pub give_up-requires-clause-running : goal.give_up-requires-clause-running
give_up-requires-clause-running c = c.in-Err.ensures.underway.1.running

pub give_up-requires-clause-may : goal.give_up-requires-clause-may
give_up-requires-clause-may c =
    let underway = c.in-Err.ensures.underway in
    write_may_give_up c.args.key c.args.write c.in-Err._way _ underway.0 underway.1.on.state

pub give_up-requires-clause-passes : goal.give_up-requires-clause-passes
give_up-requires-clause-passes c = c.in-Err.ensures.underway.1.on.passes

pub returns-in-Err-clause-rests : goal.returns-in-Err-clause-rests
returns-in-Err-clause-rests c = record { idle = c.give_up.ensures.idle; within = c.give_up.ensures.within; over = c.give_up.ensures.observed.runs }

pub returns-in-Err-clause-empty : goal.returns-in-Err-clause-empty
returns-in-Err-clause-empty c = c.give_up.ensures.same.1.0 ∙ c.write_within.ensures.empty

pub returns-in-Err-clause-undone : goal.returns-in-Err-clause-undone
returns-in-Err-clause-undone c =
    let underway = c.in-Err.ensures.underway in
    write_undone c.args.key c.args.write c.in-Err._way c.args.hand.now.number (known c.args.hand.now.seat) (known c.write_within.new.hand.seat) (known c.give_up.new.hand.seat) underway.0 underway.2 underway.1.on.state
    c.give_up.ensures.observed c.give_up.ensures.leaves

pub returns-in-Ok-clause-first : goal.returns-in-Ok-clause-first
returns-in-Ok-clause-first c = done_first _ _ _ _ _ c.in-Ok.ensures.ended.1.done

pub returns-in-Ok-clause-seen : goal.returns-in-Ok-clause-seen
returns-in-Ok-clause-seen c = c.in-Ok.ensures.ended.1.done.observed.notes.seen

pub returns-in-Err-clause-first : goal.returns-in-Err-clause-first
returns-in-Err-clause-first c = c.give_up.ensures.observed.notes.first ∙ c.in-Err.ensures.underway.2.beginning

pub returns-in-Err-clause-seen : goal.returns-in-Err-clause-seen
returns-in-Err-clause-seen c = c.give_up.ensures.observed.notes.seen
