use Rattle.bl_map_calls.proofs.Following.{posted, post_refused}
use Rattle.bl_map_calls.proofs.upkeep.post.Goals as goal

pub returns-in-NoRoom-clause-follows : goal.returns-in-NoRoom-clause-follows
returns-in-NoRoom-clause-follows g c = post_refused _ _ _ _ _ _ _ _ _ _ c.wait_for.ensures.same.2 c.in-NoRoom.is c.wait_for.ensures.swept c.post-posted.ensures.posts

pub returns-in_default-clause-follows : goal.returns-in_default-clause-follows
returns-in_default-clause-follows g c = posted _ _ _ _ _ _ _ _ _ _ c.wait_for.ensures.same.2 c.in_default.not-NoRoom c.wait_for.ensures.swept c.post-posted.ensures.posts
