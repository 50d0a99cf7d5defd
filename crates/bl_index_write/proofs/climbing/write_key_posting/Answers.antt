use Rattle.std.proofs.Common.{◌≡◌, Some, None, refl, sym, ap, subst, ◌∙◌}
use Rattle.bl_model.specs.Replies.{reply_of}
use Rattle.bl_answers.specs.declared.answers.Hint.TheVariants as hint
use Rattle.bl_proc_steps.specs.declared.approach.Approach.TheVariants as approach
use Rattle.bl_proc_writes.specs.declared.insert_post.Climbed.TheVariants as climbed
use Rattle.bl_proc_writes.specs.declared.insert_post.ClimbStage.TheVariants as climb
use Rattle.bl_proc_writes.specs.declared.paths.Path.{Path}
use Rattle.bl_proc_writes.specs.Paths.{blank}
use Rattle.bl_proc_writes.specs.Writes.{write_answer}
use Rattle.bl_proc_writes.proofs.Blank.{is_blank}
use Rattle.bl_proc_deterministic.specs.Frames.{op_of, work_of}
use Rattle.bl_index_events.specs.Runs.{Runs}
use Rattle.bl_index_events.proofs.Standing.{on_itself}
use Rattle.bl_index_edit.specs.Insertions.{climb_unborn, climb_coming}
use Rattle.bl_index_edit.specs.Writers.{left_reply}
use Rattle.bl_index_write.proofs.Climbs.{unborn_blank, ends_unsplit, unsplit_opened, unsplit_answer}
use Rattle.bl_index_edit.proofs.Written.{refused_reply, lacks_same}
use Rattle.bl_index_write.proofs.climbing.write_key_posting.Goals as goal
use Rattle.bl_proc_writes.specs.Placings.{write_of}

pub begin_descent-requires-clause-unborn : goal.begin_descent-requires-clause-unborn
begin_descent-requires-clause-unborn g c = unborn_blank c.args.key c.args.placing blank is_blank c.ranges.key.fits

pub descend-at-requires-clause-runs : goal.descend-at-requires-clause-runs
descend-at-requires-clause-runs g c =
    subst (λ (path : Path). Runs c.args.tree.now c.begin_descent.new.hand (climb_coming c.args.key c.args.placing path approach.Start)) (sym c.new-path.ensures.path) c.begin_descent.ensures.runs

pub climb-requires-clause-since : goal.climb-requires-clause-since
climb-requires-clause-since g c = (_, _, c.write_there-left.ensures.since _ _ (c.descend-at.ensures.since _ _ c.begin_descent.ensures.begun))

pub conclude-requires : goal.conclude-requires
conclude-requires g c =
    let path = c.descend-at.new.path in let l = c.write_there-left.result in let runs = c.write_there-left.ensures.runs in
    let is = runs.on.state ∙ unsplit_opened c.args.key c.args.placing path l c.in_default.not-Split in
    record {
      runs = record { own = runs.own; running = runs.running; on = on_itself _ _ _ runs.on };
      ends = (_, ends_unsplit c.args.key c.args.placing path l _ is);
    }

pub returns-in_default : goal.returns-in_default
returns-in_default g c =
    let key = c.args.key in let placing = c.args.placing in
    let path = c.descend-at.new.path in let l = c.write_there-left.result in let runs = c.write_there-left.ensures.runs in
    let is = runs.on.state ∙ unsplit_opened key placing path l c.in_default.not-Split in
    let one = c.begin_descent.ensures.same.0 in let two = c.descend-at.ensures.same.0 in let three = c.write_there-left.ensures.same in let last = c.conclude.ensures.same in
    let since = c.write_there-left.ensures.since _ _ (c.descend-at.ensures.since _ _ c.begin_descent.ensures.begun) in
    let answer = (λ i. write_answer (sym c.write.ensures i) (sym c.reply.ensures i)) ∙ c.answer_of-reply.ensures.answer in
    record {
      same = (last.0.0 ∙ (three.0 ∙ (two.0 ∙ one.0)), last.0.1 ∙ (three.1 ∙ (two.1 ∙ one.1)), last.0.2 ∙ (three.2 ∙ (two.2 ∙ one.2)));
      rests = c.conclude.ensures.rests;
      empty = last.1.0 ∙ c.write_there-left.ensures.empty;
      climbed = record {
        first = climb_unborn key placing blank is_blank;
        op_is = refl;
        over = record { key = key; placing = placing; path = path; stage = climb.Over (climbed.Unsplit (left_reply l)); stands = tt };
        done = c.conclude.ensures.done _ _ (climb_unborn key placing blank is_blank) _ since (ends_unsplit key placing path l _ is) (ap op_of is) (ap work_of is);
        answer = ap Some (unsplit_answer placing (left_reply l) _ _ answer);
      };
      no_room = λ none. lacks_same key (write_of placing) c.write_there-left.new.hand.seat c.conclude.new.hand.seat c.conclude.ensures.refusal c.conclude.ensures.keeps (c.write_there-left.ensures.no_room (refused_reply l (sym c.reply.ensures ∙ c.answer_of-reply.ensures.no_room none)));
      entered = λ level separator e. absurd (let f : None ≡ Some (hint.Post level separator) = e in cc);
      left = λ level separator e. absurd (let f : None ≡ Some (hint.Post level separator) = e in cc);
    }

pub returns-in-Split : goal.returns-in-Split
returns-in-Split g c =
    let over = c.climb.ensures.over in
    let one = c.begin_descent.ensures.same.0 in let two = c.descend-at.ensures.same.0 in let three = c.write_there-left.ensures.same in let last = c.climb.ensures.same in
    let since = c.write_there-left.ensures.since _ _ (c.descend-at.ensures.since _ _ c.begin_descent.ensures.begun) in
    record {
      same = (last.0 ∙ (three.0 ∙ (two.0 ∙ one.0)), last.1 ∙ (three.1 ∙ (two.1 ∙ one.1)), last.2 ∙ (three.2 ∙ (two.2 ∙ one.2)));
      rests = over.rests;
      empty = over.empty;
      climbed = over.is_climbed _ _ since;
      no_room = λ none. over.no_room (ap reply_of none);
      entered = over.entered;
      left = over.lacks;
    }
