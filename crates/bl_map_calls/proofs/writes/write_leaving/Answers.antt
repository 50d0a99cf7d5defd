use Rattle.std.proofs.Common.{ap}
use Rattle.bl_index.specs.Calls.{trail}
use Rattle.bl_model.specs.Replies.{reply_of}
use Rattle.bl_map_calls.proofs.Following.{split_as}
use Rattle.bl_map_calls.proofs.Lacking.{refused_leaves}
use Rattle.bl_map_calls.proofs.writes.write_leaving.Goals as goal

pub returns-in-NoRoom-clause-leaves : goal.returns-in-NoRoom-clause-leaves
returns-in-NoRoom-clause-leaves g c = refused_leaves _ _ _ _ _ _ _ (ap reply_of c.in-NoRoom.is) c.write-reply.ensures.written

pub returns-clause-leaves : goal.returns-clause-leaves
returns-clause-leaves g c = record {
  hint = c.write-reply.result.1;
  mid = trail c.write-reply.new.pass;
  written = c.write-reply.ensures.written;
  follows = split_as _ _ _ _ _ _ _ c.write-reply.ensures.same.2 c.follow_split-left.ensures.follows;
}
