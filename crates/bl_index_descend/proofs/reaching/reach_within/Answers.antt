use Rattle.bl_index_events.proofs.Standing.{same_all}
use Rattle.bl_index_descend.proofs.reaching.reach_within.Goals as goal

pub returns-in-Ok-come_trying-clause-since : goal.returns-in-Ok-come_trying-clause-since
returns-in-Ok-come_trying-clause-since g c = same_all _ _ _ c.look_up.ensures.since c.come_trying.ensures.since

pub returns-in-Err-come_trying-clause-since : goal.returns-in-Err-come_trying-clause-since
returns-in-Err-come_trying-clause-since g c = same_all _ _ _ c.look_up.ensures.since c.come_trying.ensures.since
