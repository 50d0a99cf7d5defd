use Rattle.std.proofs.Common.{Some, ap, ◌∙◌}
use Rattle.bl_proc_writes.specs.declared.post.PostStage.TheVariants as post
use Rattle.bl_proc_deterministic.specs.Frames.{op_of, work_of}
use Rattle.bl_index_events.proofs.Standing.{on_itself}
use Rattle.bl_index_write.specs.Events.{posting}
use Rattle.bl_index_edit.proofs.Walked.{lacks_post_same}
use Rattle.bl_index_write.proofs.PostEnds.{ends_post}
use Rattle.bl_index_write.proofs.posting.end_post.Goals as goal

pub conclude-requires : goal.conclude-requires
conclude-requires c =
    let runs = c.requires.process.1 in
    record {
      runs = record { own = runs.own; running = runs.running; on = on_itself _ _ _ runs.on };
      ends = (_, ends_post c.args.target c.args.reply c.requires.process.0 _ runs.on.state);
    }

pub posted_by-requires : goal.posted_by-requires
posted_by-requires c = c.requires.process.0

pub returns-clause-over : goal.returns-clause-over
returns-clause-over c =
    let j = c.args.target in let r = c.args.reply in let may = c.requires.process.0 in let is = c.requires.process.1.on.state in
    record {
      rests = c.conclude.ensures.rests;
      empty = c.conclude.ensures.same.1.0 ∙ c.requires.empty;
      no_room = λ none. lacks_post_same j.level j.key c.args.hand.now.seat c.conclude.new.hand.seat c.conclude.ensures.refusal c.conclude.ensures.keeps (c.requires.no_room (c.posted_by.ensures.no_room none));
      is_posted = λ pass old since. record {
        last = record { level = j.level; key = j.key; stage = post.Over r; least = j.least; most = j.most; below = may };
        done = c.conclude.ensures.done pass old (posting j post.New tt) _ since (ends_post j r may _ is) (ap op_of is) (ap work_of is);
        answer = ap Some c.posted_by.ensures.answer;
      };
    }
