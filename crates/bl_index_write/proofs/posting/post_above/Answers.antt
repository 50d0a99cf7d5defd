use Rattle.std.proofs.Common.{ℕ, Some, refl, sym, subst, ◌∙◌}
use Rattle.bl_proc_writes.specs.declared.post.PostStage.TheVariants as post
use Rattle.bl_proc.specs.declared.kinds.Proc.TheVariants as proc
use Rattle.bl_store.specs.Hands.{known}
use Rattle.bl_store.specs.declared.store.Hand.{Hand}
use Rattle.bl_index_rule.specs.declared.known.PassState.{PassState}
use Rattle.bl_index_events.specs.Runs.{IsSince}
use Rattle.bl_index_write.specs.Events.{posting}
use Rattle.bl_index_events.specs.Rooms.{LacksPost}
use Rattle.bl_index_write.proofs.PostEnds.{post_has_answer, post_named}
use Rattle.bl_index_events.proofs.Standing.{done_from}
use Rattle.bl_answers.specs.declared.answers.Answer.TheVariants as answer
use Rattle.bl_answers.specs.declared.answers.Posted.{Posted}
use Rattle.bl_proc_deterministic.specs.Refusals.{IsNoRoom}
use Rattle.bl_index_events.proofs.Rooms.{lacks_asked}
use Rattle.bl_index_write.proofs.posting.post_above.Goals as goal

pub posted-requires : goal.posted-requires
posted-requires g c =
    let anchor = c.requires.anchor in let begun = c.requires.since in
    let takes = c.looked_up-process.ensures.takes anchor.page anchor.is in
    let since = subst (λ (h : Hand PassState). IsSince begun.0 begun.1 (known h.seat)) (sym c.looked_up-process.ensures.same) begun.2 in
    post_has_answer _ _ _ _ _ _ _ (c.carry_on-process.ensures.done begun.0 begun.1 since) (λ i. Some (takes.0 i, takes.1 i)) _ c.answer.ensures

pub returns-clause-over : goal.returns-clause-over
returns-clause-over g c =
    let anchor = c.requires.anchor in let first = c.requires.since in
    let takes = c.looked_up-process.ensures.takes anchor.page anchor.is in
    let still = subst (λ (h : Hand PassState). IsSince first.0 first.1 (known h.seat)) (sym c.looked_up-process.ensures.same) first.2 in
    let named = post_named first.0 first.1 (known c.carry_on-process.new.hand.seat) (proc.Post c.looked_up-process.result) c.carry_on-process.result c.args.target.level c.args.target.key (c.carry_on-process.ensures.done first.0 first.1 still) (λ i. Some (takes.0 i, takes.1 i)) in
    record {
      rests = c.carry_on-process.ensures.rests;
      empty = c.carry_on-process.ensures.empty;
      no_room = λ none. subst (λ (z : ℕ × ℕ). LacksPost z.0 z.1 c.carry_on-process.new.hand.seat) (λ i. (named.0 i, named.1 i)) (lacks_asked c.carry_on-process.new.hand.seat c.carry_on-process.result (c.carry_on-process.ensures.no_room _ (sym c.answer.ensures ∙ c.posted.ensures) (subst (λ (z : Posted). IsNoRoom (answer.Post z c.posted.result.1)) (sym none) tt)));
      is_posted = λ pass old begun.
          let since = subst (λ (h : Hand PassState). IsSince pass old (known h.seat)) (sym c.looked_up-process.ensures.same) begun in
          record {
            last = c.carry_on-process.result;
            done = done_from pass old _ (posting c.args.target post.New tt) (proc.Post c.looked_up-process.result) _ (c.carry_on-process.ensures.done pass old since) refl (λ i. Some (takes.0 i, takes.1 i));
            answer = sym c.answer.ensures ∙ c.posted.ensures;
          };
    }

pub carry_on-process-requires-clause-runs : goal.carry_on-process-requires-clause-runs
carry_on-process-requires-clause-runs g c = c.looked_up-process.ensures.underway.runs

pub carry_on-process-requires-clause-going : goal.carry_on-process-requires-clause-going
carry_on-process-requires-clause-going g c = c.looked_up-process.ensures.underway.going

pub carry_on-process-requires-clause-reserved : goal.carry_on-process-requires-clause-reserved
carry_on-process-requires-clause-reserved g c = c.looked_up-process.ensures.underway.reserved

pub carry_on-process-requires-clause-free : goal.carry_on-process-requires-clause-free
carry_on-process-requires-clause-free g c = c.looked_up-process.ensures.underway.free
