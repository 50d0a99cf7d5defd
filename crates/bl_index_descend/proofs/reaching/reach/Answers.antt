use Rattle.bl_index_events.proofs.Standing.{same_all}
use Rattle.bl_index_descend.proofs.reaching.reach.Goals as goal

pub returns-in-Ok-clause-since : goal.returns-in-Ok-clause-since
returns-in-Ok-clause-since g c = same_all _ _ _ c.in-Ok.ensures.since c.come_from.ensures.since
