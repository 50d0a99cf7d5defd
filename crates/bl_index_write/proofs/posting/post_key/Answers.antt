use Rattle.bl_index_write.proofs.PostEnds.{posted_first}
use Rattle.bl_index_write.proofs.posting.post_key.Goals as goal

pub returns-clause-posted : goal.returns-clause-posted
returns-clause-posted g c = posted_first _ _ _ _ _ _ (c.post_until.ensures.over.is_posted _ _ c.begin_descent.ensures.begun)

pub post_until-requires-clause-since : goal.post_until-requires-clause-since
post_until-requires-clause-since g c = (_, _, c.begin_descent.ensures.begun)

pub returns-clause-no_room : goal.returns-clause-no_room
returns-clause-no_room g c = c.post_until.ensures.over.no_room
