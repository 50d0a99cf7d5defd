use Rattle.bl_map_tries.proofs.Pieces.{post_given_up, post_done, post_no_room}
use Rattle.bl_map_tries.proofs.trying.try_posting.Goals as goal

pub returns-in_default-clause-tries : goal.returns-in_default-clause-tries
returns-in_default-clause-tries c = post_given_up _ _ _ _ _ _ _ _ _ c.release.ensures.same.2 c.release.ensures.swept c.requires.post c.in_default.ensures.undone

pub returns-in-NoRoom-clause-tries : goal.returns-in-NoRoom-clause-tries
returns-in-NoRoom-clause-tries c = post_no_room _ _ _ _ _ _ _ _ _ c.release.ensures.same.2 c.release.ensures.swept c.requires.post c.in-Some.posted c.in-Some.more c.in-NoRoom.is c.in-Some.ensures.posts

pub returns-in_default-posted-clause-tries : goal.returns-in_default-posted-clause-tries
returns-in_default-posted-clause-tries c = post_done _ _ _ _ _ _ _ _ _ c.release.ensures.same.2 c.release.ensures.swept c.requires.post c.in-Some.posted c.in-Some.more c.in_default-posted.not-NoRoom c.in-Some.ensures.posts
