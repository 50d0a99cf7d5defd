use Rattle.std.proofs.Common.{ℕ, Some, sym, subst, ◌∙◌, arith}
use Rattle.bl_answers.specs.declared.answers.Answer.TheVariants as answer
use Rattle.bl_answers.specs.declared.answers.Posted.{Posted}
use Rattle.bl_proc.specs.declared.kinds.Proc.TheVariants as proc
use Rattle.bl_proc_deterministic.specs.Refusals.{IsNoRoom}
use Rattle.bl_store.specs.Hands.{known}
use Rattle.bl_index_events.specs.Rooms.{LacksPost}
use Rattle.bl_index_events.proofs.Ends.{done_first}
use Rattle.bl_index_events.proofs.Rooms.{lacks_asked}
use Rattle.bl_index_events.proofs.Quiet.{first_of}
use Rattle.bl_index_write.proofs.GivingUp.{begins_outside, post_may_give_up, post_undone, rises_outside, turned_back}
use Rattle.bl_index_write.proofs.PostEnds.{post_has_answer, post_named}
use Rattle.bl_index_write.proofs.posting.try_post.Goals as goal

pub returns-in-Ok-clause-rests : goal.returns-in-Ok-clause-rests
returns-in-Ok-clause-rests c = c.in-Ok.ensures.ended.0

pub returns-in-Ok-clause-empty : goal.returns-in-Ok-clause-empty
returns-in-Ok-clause-empty c = c.in-Ok.ensures.ended.1

pub returns-in-Ok-clause-posted : goal.returns-in-Ok-clause-posted
returns-in-Ok-clause-posted c = c.in-Ok.ensures.ended.2

pub returns-in-Ok-clause-no_room : goal.returns-in-Ok-clause-no_room
returns-in-Ok-clause-no_room c = c.in-Ok.ensures.no_room

pub give_up-requires-clause-may : goal.give_up-requires-clause-may
give_up-requires-clause-may c =
    let underway = c.in-Err.ensures.underway in
    post_may_give_up c.in-Err.process _ (begins_outside c.in-Err.process.stage underway.0.outside (sym c.begins_again.ensures ∙ c.if-begins_again.true)) underway.0.runs.on.state

pub returns-then-begins_again-clause-undone : goal.returns-then-begins_again-clause-undone
returns-then-begins_again-clause-undone c =
    let underway = c.in-Err.ensures.underway in
    post_undone c.in-Err.process c.args.level c.args.hand.now.number (known c.args.hand.now.seat) (known c.post_within.new.hand.seat) (known c.give_up.new.hand.seat) underway.0.level_is
    (begins_outside c.in-Err.process.stage underway.0.outside (sym c.begins_again.ensures ∙ c.if-begins_again.true)) underway.1 underway.0.runs.on.state c.give_up.ensures.observed c.give_up.ensures.leaves

pub carry_briefly-requires-clause-near : goal.carry_briefly-requires-clause-near
carry_briefly-requires-clause-near c = (rises_outside c.in-Err.process.stage c.in-Err.ensures.underway.0.outside (sym c.begins_again.ensures ∙ c.if-begins_again.false), λ le. absurd (omega (arith, le)))

pub posted-requires : goal.posted-requires
posted-requires c =
    let underway = c.in-Err.ensures.underway in
    post_has_answer _ _ _ _ _ _ _ (c.carry_briefly.ensures.done c.if-carry_briefly.true _ _ underway.1) (λ i. Some (underway.0.level_is i, underway.0.key_is i)) _ c.answer.ensures

pub returns-then-carry_briefly-clause-posted : goal.returns-then-carry_briefly-clause-posted
returns-then-carry_briefly-clause-posted c =
    let underway = c.in-Err.ensures.underway in (
      proc.Post c.in-Err.process,
      (λ i. Some (underway.0.level_is i, underway.0.key_is i)),
      record {
        last = c.carry_briefly.new.process;
        done = c.carry_briefly.ensures.done c.if-carry_briefly.true _ _ underway.1;
        answer = sym c.answer.ensures ∙ c.posted.ensures;
      },
    )

pub returns-then-carry_briefly-clause-no_room : goal.returns-then-carry_briefly-clause-no_room
returns-then-carry_briefly-clause-no_room c = λ none.
    let underway = c.in-Err.ensures.underway in
    let h = c.carry_briefly.new.hand.seat in
    let named = post_named _ _ (known h) (proc.Post c.in-Err.process) c.carry_briefly.new.process c.args.level c.args.key (c.carry_briefly.ensures.done c.if-carry_briefly.true _ _ underway.1) (λ i. Some (underway.0.level_is i, underway.0.key_is i)) in
    subst (λ (z : ℕ × ℕ). LacksPost z.0 z.1 h) (λ i. (named.0 i, named.1 i))
    (lacks_asked h c.carry_briefly.new.process (c.carry_briefly.ensures.no_room c.if-carry_briefly.true _ (sym c.answer.ensures ∙ c.posted.ensures) (subst (λ (z : Posted). IsNoRoom (answer.Post z c.posted.result.1)) (sym none) tt)))

pub give_up-requires-in-Err-clause-may : goal.give_up-requires-in-Err-clause-may
give_up-requires-in-Err-clause-may c =
    let e = c.carry_briefly.ensures in
    post_may_give_up c.carry_briefly.new.process _ (turned_back c.carry_briefly.new.process.stage (e.back c.if-carry_briefly.false)) (e.runs c.if-carry_briefly.false).on.state

pub returns-else-carry_briefly-clause-undone : goal.returns-else-carry_briefly-clause-undone
returns-else-carry_briefly-clause-undone c =
    let underway = c.in-Err.ensures.underway in
    let e = c.carry_briefly.ensures in
    let not = c.if-carry_briefly.false in
    post_undone c.carry_briefly.new.process c.args.level c.args.hand.now.number (known c.args.hand.now.seat) (known c.carry_briefly.new.hand.seat) (known c.give_up-in-Err.new.hand.seat)
    (first_of (e.work not) ∙ underway.0.level_is) (turned_back c.carry_briefly.new.process.stage (e.back not)) (e.since not _ _ underway.1) (e.runs not).on.state c.give_up-in-Err.ensures.observed c.give_up-in-Err.ensures.leaves

pub returns-in-Ok-clause-first : goal.returns-in-Ok-clause-first
returns-in-Ok-clause-first c = done_first _ _ _ _ _ c.in-Ok.ensures.ended.2.2.done

pub returns-in-Ok-clause-seen : goal.returns-in-Ok-clause-seen
returns-in-Ok-clause-seen c = c.in-Ok.ensures.ended.2.2.done.observed.notes.seen

pub returns-then-begins_again-clause-first : goal.returns-then-begins_again-clause-first
returns-then-begins_again-clause-first c = c.give_up.ensures.observed.notes.first ∙ c.in-Err.ensures.underway.1.beginning

pub returns-then-begins_again-clause-seen : goal.returns-then-begins_again-clause-seen
returns-then-begins_again-clause-seen c = c.give_up.ensures.observed.notes.seen

pub returns-then-carry_briefly-clause-first : goal.returns-then-carry_briefly-clause-first
returns-then-carry_briefly-clause-first c = done_first _ _ _ _ _ (c.carry_briefly.ensures.done c.if-carry_briefly.true _ _ c.in-Err.ensures.underway.1)

pub returns-then-carry_briefly-clause-seen : goal.returns-then-carry_briefly-clause-seen
returns-then-carry_briefly-clause-seen c = (c.carry_briefly.ensures.done c.if-carry_briefly.true _ _ c.in-Err.ensures.underway.1).observed.notes.seen

pub returns-else-carry_briefly-clause-first : goal.returns-else-carry_briefly-clause-first
returns-else-carry_briefly-clause-first c =
    c.give_up-in-Err.ensures.observed.notes.first ∙ (c.carry_briefly.ensures.since c.if-carry_briefly.false _ _ c.in-Err.ensures.underway.1).beginning

pub returns-else-carry_briefly-clause-seen : goal.returns-else-carry_briefly-clause-seen
returns-else-carry_briefly-clause-seen c = c.give_up-in-Err.ensures.observed.notes.seen
