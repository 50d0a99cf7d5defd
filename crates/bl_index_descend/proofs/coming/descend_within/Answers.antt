use Rattle.bl_index_events.proofs.Standing.{same_all}
use Rattle.bl_index_descend.proofs.coming.descend_within.Goals as goal

pub returns-clause-since : goal.returns-clause-since
returns-clause-since g c = same_all _ _ _ c.read_anchor-from.ensures.since c.come_trying.ensures.since
