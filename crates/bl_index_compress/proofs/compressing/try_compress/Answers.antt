use Rattle.std.proofs.Common.{refl, ◌∙◌}
use Rattle.bl_store.specs.Hands.{known}
use Rattle.bl_index_events.proofs.Ends.{done_first}
use Rattle.bl_index_compress.proofs.GivingUp.{compress_may_give_up, compress_undone}
use Rattle.bl_index_compress.proofs.compressing.try_compress.Goals as goal

pub returns-in-Some-clause-rests : goal.returns-in-Some-clause-rests
returns-in-Some-clause-rests c = c.in-Some.ensures.over.rests

pub returns-in-Some-clause-empty : goal.returns-in-Some-clause-empty
returns-in-Some-clause-empty c = c.in-Some.ensures.over.empty

pub returns-in-Some-clause-compressed : goal.returns-in-Some-clause-compressed
returns-in-Some-clause-compressed c = (_, refl, c.in-Some.ensures.over.is_compressed _ _ c.begin_descent.ensures.begun)

pub returns-in-Some-clause-no_room : goal.returns-in-Some-clause-no_room
returns-in-Some-clause-no_room c = c.in-Some.ensures.over.no_room

pub give_up-requires-clause-own : goal.give_up-requires-clause-own
give_up-requires-clause-own c = c.in-None.ensures.back.runs.own

pub give_up-requires-clause-running : goal.give_up-requires-clause-running
give_up-requires-clause-running c = c.in-None.ensures.back.runs.running

pub give_up-requires-clause-may : goal.give_up-requires-clause-may
give_up-requires-clause-may c = let back = c.in-None.ensures.back in compress_may_give_up _ back.way _ back.free back.runs.on.state

pub give_up-requires-clause-passes : goal.give_up-requires-clause-passes
give_up-requires-clause-passes c = c.in-None.ensures.back.runs.on.passes

pub returns-in-None-clause-rests : goal.returns-in-None-clause-rests
returns-in-None-clause-rests c = record { idle = c.give_up.ensures.idle; within = c.give_up.ensures.within; over = c.give_up.ensures.observed.runs }

pub returns-in-None-clause-empty : goal.returns-in-None-clause-empty
returns-in-None-clause-empty c = c.give_up.ensures.same.1.0 ∙ c.in-None.ensures.back.empty

pub returns-in-None-clause-undone : goal.returns-in-None-clause-undone
returns-in-None-clause-undone c =
    let back = c.in-None.ensures.back in
    compress_undone _ back.way c.args.hand.now.number (known c.args.hand.now.seat) (known c.compress_once.new.hand.seat) (known c.give_up.new.hand.seat) back.free (back.since _ _ c.begin_descent.ensures.begun) back.runs.on.state c.give_up.ensures.observed c.give_up.ensures.leaves

pub returns-in-Some-clause-first : goal.returns-in-Some-clause-first
returns-in-Some-clause-first c = done_first _ _ _ _ _ (c.in-Some.ensures.over.is_compressed _ _ c.begin_descent.ensures.begun).done

pub returns-in-Some-clause-seen : goal.returns-in-Some-clause-seen
returns-in-Some-clause-seen c = (c.in-Some.ensures.over.is_compressed _ _ c.begin_descent.ensures.begun).done.observed.notes.seen

pub returns-in-None-clause-first : goal.returns-in-None-clause-first
returns-in-None-clause-first c = c.give_up.ensures.observed.notes.first ∙ (c.in-None.ensures.back.since _ _ c.begin_descent.ensures.begun).beginning

pub returns-in-None-clause-seen : goal.returns-in-None-clause-seen
returns-in-None-clause-seen c = c.give_up.ensures.observed.notes.seen
