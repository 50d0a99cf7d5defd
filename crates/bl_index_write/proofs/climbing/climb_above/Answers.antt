use Rattle.std.proofs.Common.{rules, ℕ, ◌≡◌, Some, inl, inr, sym, ap, subst, ◌∙◌}
use Rattle.bl_model.specs.Writes.{write_op}
use Rattle.bl_model.specs.declared.operation.Reply.TheVariants as reply
use Rattle.bl_model.specs.Replies.{reply_of}
use Rattle.bl_proc_steps.specs.declared.acts.Seen.TheVariants as seen
use Rattle.bl_answers.specs.declared.answers.Answer.TheVariants.{InsertPost as Answered}
use Rattle.bl_answers.specs.declared.answers.Hint.TheVariants as hint
use Rattle.bl_answers.specs.declared.answers.Posted.TheVariants as posted
use Rattle.bl_proc_steps.specs.declared.approach.Approach.TheVariants as approach
use Rattle.bl_proc.specs.declared.kinds.Proc.TheVariants as proc
use Rattle.bl_proc_writes.specs.declared.post.PostStage.TheVariants as post
use Rattle.bl_proc_writes.specs.declared.insert_post.Placing.{Placing}
use Rattle.bl_proc_writes.specs.Placings.{write_of}
use Rattle.bl_proc_writes.specs.InsertPosts.{climb_answer_in}
use Rattle.bl_proc_deterministic.proofs.RefusedTurns.{takes_refused, takes_puts}
use Rattle.bl_store.specs.Hands.{known, IsRunning}
use Rattle.bl_store.specs.declared.store.Hand.{Hand}
use Rattle.bl_index_rule.specs.declared.known.PassState.{PassState}
use Rattle.bl_index_events.specs.Rooms.{LacksWrite}
use Rattle.bl_index_events.specs.Runs.{IsOn, IsSince}
use Rattle.bl_index_events.proofs.Rooms.{lacks_climb, words_not_refused}
use Rattle.bl_index_events.proofs.Standing.{on_as}
use Rattle.bl_index_write.specs.Climbing.{rises}
use Rattle.bl_index_write.proofs.Climbs.{ended, has_answer, said_by, no_room_page, left_post, rises_on}
use Rattle.bl_index_write.proofs.climbing.climb_above.Goals as goal

pub carry_on-process-requires-clause-runs : goal.carry_on-process-requires-clause-runs
carry_on-process-requires-clause-runs g c = record {
  own = search rules;
  running = subst (λ (h : Hand PassState). IsRunning h.seat) (sym c.took_words.ensures.same) (search rules);
  on = (let j = c.args.rising.now in let anchor = c.requires.anchor in
      let takes = c.took_words.ensures.takes anchor.page anchor.is in
      let course = rises_on j c.args.path.now (seen.Words anchor.page) tt in
      let stands = course.only _ anchor.takes ∙ sym (course.only (proc.InsertPost c.took_words.new.self) takes) in
      subst (λ (h : Hand PassState). IsOn c.args.tree.now.store.layout (known h.seat) (proc.InsertPost c.took_words.new.self)) (sym c.took_words.ensures.same) (on_as _ _ _ c.requires.runs.on stands));
}

pub carry_on-process-requires-clause-free : goal.carry_on-process-requires-clause-free
carry_on-process-requires-clause-free g c =
    let anchor = c.requires.anchor in
    let takes = c.took_words.ensures.takes anchor.page anchor.is in
    let start = rises c.args.rising.now c.args.path.now (post.Coming approach.Start) tt tt in
    ((λ r. elim (takes_refused start (seen.Words anchor.page) (proc.InsertPost c.took_words.new.self) takes r) [ inl was ↦ was | inr observed ↦ words_not_refused _ observed ]), λ r. takes_puts start (seen.Words anchor.page) (proc.InsertPost c.took_words.new.self) takes r)

pub climbed-requires : goal.climbed-requires
climbed-requires g c =
    let j = c.args.rising.now in let anchor = c.requires.anchor in let begun = c.requires.since in let q = c.carry_on-process.result in
    let takes = c.took_words.ensures.takes anchor.page anchor.is in
    let since = subst (λ (h : Hand PassState). IsSince begun.0 begun.1 (known h.seat)) (sym c.took_words.ensures.same) begun.2 in
    has_answer q j.insertion.key j.insertion.placing _ (ended _ _ _ _ q j.insertion.key j.insertion.placing (c.carry_on-process.ensures.done begun.0 begun.1 since) (λ i. Some (write_op (takes.0 i) (write_of (takes.1 i))))) c.answer.ensures

pub returns-clause-over : goal.returns-clause-over
returns-clause-over g c =
    let j = c.args.rising.now in let anchor = c.requires.anchor in let begun = c.requires.since in let q = c.carry_on-process.result in let out = c.carry_on-process.ensures in
    let h = c.carry_on-process.new.hand.seat in let said = reply_of c.climbed.result.0 in let last = c.climbed.result.1 in let left = c.climbed.result.2 in
    let takes = c.took_words.ensures.takes anchor.page anchor.is in
    let same = sym c.took_words.ensures.same in
    let since = subst (λ (z : Hand PassState). IsSince begun.0 begun.1 (known z.seat)) same begun.2 in
    let inserts : Some (write_op c.took_words.new.self.key (write_of c.took_words.new.self.placing)) ≡ Some (write_op j.insertion.key (write_of j.insertion.placing)) = λ i. Some (write_op (takes.0 i) (write_of (takes.1 i))) in
    let is = ended _ _ _ _ q j.insertion.key j.insertion.placing (out.done begun.0 begun.1 since) inserts in
    let told : climb_answer_in q.placing q.stage ≡ Some (Answered said last left) = sym c.answer.ensures ∙ c.climbed.ensures in
    record {
      rests = out.rests;
      empty = out.empty;
      is_climbed = λ pass old start. record {
        first = _;
        op_is = inserts;
        over = q;
        done = out.done pass old (subst (λ (z : Hand PassState). IsSince pass old (known z.seat)) same start);
        answer = told;
      };
      no_room = λ none.
          let answer : climb_answer_in q.placing q.stage ≡ Some (Answered reply.NoRoom last left) = told ∙ ap (λ z. Some (Answered z last left)) none in
          subst (λ (z : ℕ × Placing). LacksWrite z.0 (write_of z.1) h) (λ i. (is.key_is i, is.placing_is i)) (no_room_page h q.key q.placing is.end last left (said_by q j.insertion.key j.insertion.placing _ is answer) (lacks_climb h q is.end is.stage (out.no_room _ answer tt)));
      entered = λ level separator there.
          (left_post h q.key q.placing is.end said last level separator (said_by q j.insertion.key j.insertion.placing _ is (told ∙ ap (λ z. Some (Answered said last z)) there))).said_is;
      lacks = λ level separator there.
          let is_left = left_post h q.key q.placing is.end said last level separator (said_by q j.insertion.key j.insertion.placing _ is (told ∙ ap (λ z. Some (Answered said last z)) there)) in
          let answer : climb_answer_in q.placing q.stage ≡ Some (Answered reply.Inserted (Some posted.NoRoom) (Some (hint.Post level separator))) = told ∙ (λ i. Some (Answered (is_left.said_is i) (is_left.last_is i) (there i))) in
          is_left.lacks (lacks_climb h q is.end is.stage (out.no_room _ answer tt));
    }
