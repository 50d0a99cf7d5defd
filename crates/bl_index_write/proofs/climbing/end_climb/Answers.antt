use Rattle.std.proofs.Common.{Some, refl, sym, ap, ◌∙◌, ◌≡◌}
use Rattle.bl_model.specs.declared.operation.Reply.TheVariants as reply
use Rattle.bl_answers.specs.declared.answers.Answer.TheVariants.{InsertPost as Answered}
use Rattle.bl_proc_writes.specs.declared.insert_post.Climbed.TheVariants as climbed
use Rattle.bl_proc_writes.specs.declared.insert_post.ClimbStage.TheVariants as climb
use Rattle.bl_proc_deterministic.specs.Frames.{op_of, work_of}
use Rattle.bl_index_events.proofs.Standing.{on_itself}
use Rattle.bl_index_edit.specs.Insertions.{climbing}
use Rattle.bl_index_write.proofs.Climbs.{rose_last, ends_climb, post_left, refused_post}
use Rattle.bl_index_edit.proofs.Walked.{lacks_post_same}
use Rattle.bl_index_write.proofs.climbing.end_climb.Goals as goal

pub conclude-requires : goal.conclude-requires
conclude-requires c =
    let j = c.args.rising.now in let r = c.args.reply in let runs = c.requires.process.1 in
    record {
      runs = record { own = runs.own; running = runs.running; on = on_itself _ _ _ runs.on };
      ends = (_, ends_climb j.insertion.key j.insertion.placing c.args.path.now (climbed.Posted j.level j.separator r) _ (runs.on.state ∙ rose_last j c.args.path.now r c.requires.process.0 c.requires.last));
    }

pub returns-clause-over : goal.returns-clause-over
returns-clause-over c =
    let j = c.args.rising.now in let r = c.args.reply in let path = c.args.path.now in
    let is = c.requires.process.1.on.state ∙ rose_last j path r c.requires.process.0 c.requires.last in
    record {
      rests = c.conclude.ensures.rests;
      empty = c.conclude.ensures.same.1.0 ∙ c.requires.empty;
      is_climbed = λ pass old since. record {
        first = climbing j.insertion.key j.insertion.placing path (climb.Ending (climbed.Posted j.level j.separator r)) tt;
        op_is = refl;
        over = record { key = j.insertion.key; placing = j.insertion.placing; path = path; stage = climb.Over (climbed.Posted j.level j.separator r); stands = tt };
        done = c.conclude.ensures.done pass old _ _ since (ends_climb j.insertion.key j.insertion.placing path (climbed.Posted j.level j.separator r) _ is) (ap op_of is) (ap work_of is);
        answer = (λ i. Some (Answered reply.Inserted (sym c.last_posted-posted.ensures.0 i) (sym c.last_posted-posted.ensures.1 i)));
      };
      no_room = λ e. absurd (let f : reply.Inserted ≡ reply.NoRoom = e in cc);
      entered = λ level separator e. refl;
      lacks = λ level separator e.
          let left = post_left c.conclude.new.hand.seat j.level j.separator level separator r (sym c.last_posted-posted.ensures.1 ∙ e) in
          left.1 (lacks_post_same j.level j.separator c.args.hand.now.seat c.conclude.new.hand.seat c.conclude.ensures.refusal c.conclude.ensures.keeps (c.requires.no_room (refused_post r left.0)));
    }
