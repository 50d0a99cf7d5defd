use Rattle.std.proofs.Common.{◌∙◌, ap}
use Rattle.bl_index.specs.Calls.{trail}
use Rattle.bl_model.specs.Replies.{reply_of}
use Rattle.bl_map_calls.proofs.Adding.{swept_as}
use Rattle.bl_map_calls.proofs.Following.{follows_as}
use Rattle.bl_map_calls.proofs.Lacking.{refused_changes}
use Rattle.bl_map_calls.proofs.writes.write.Goals as goal

pub returns-in-NoRoom-clause-changes : goal.returns-in-NoRoom-clause-changes
returns-in-NoRoom-clause-changes g c = refused_changes _ _ _ _ _ _ _ _ (ap reply_of c.in-NoRoom.is) c.write-reply.ensures.written

pub returns-clause-changes : goal.returns-clause-changes
returns-clause-changes g c =
    let number = c.follow-left.ensures.same.2 ∙ c.write-reply.ensures.same.2 in
    record {
      hint = c.write-reply.result.1;
      behind = trail c.write-reply.new.pass;
      mid = trail c.follow-left.new.pass;
      written = c.write-reply.ensures.written;
      upkeep = (c.follow-left.result, follows_as _ _ _ _ _ _ _ c.write-reply.ensures.same.2 c.follow-left.ensures.follows, c.keep.ensures);
      sweeps = swept_as _ _ _ _ _ number c.sweep_if_due.ensures.swept;
    }
