use Rattle.bl_map_calls.proofs.Adding.{nothing}
use Rattle.bl_map_tries.proofs.Pieces.{nothing_tried, oldest_tried, tried_adds}
use Rattle.bl_map_tries.proofs.trying.try_follow.Goals as goal

pub returns-in_default-clause-tries : goal.returns-in_default-clause-tries
returns-in_default-clause-tries c = nothing_tried _ _ c.take.result _ _ _ c.in_default.is c.take.ensures

pub returns-clause-tries : goal.returns-clause-tries
returns-clause-tries c = oldest_tried _ _ c.in-Some.hint c.take.result _ _ _ _ _ _ _ c.in-Some.is c.left_of.ensures c.take.ensures c.try_hint-tried.ensures.tries c.keep.ensures

pub returns-in_default-clause-adds : goal.returns-in_default-clause-adds
returns-in_default-clause-adds c = nothing _ _ _

pub returns-clause-adds : goal.returns-clause-adds
returns-clause-adds c = tried_adds _ _ _ _ _ _ c.try_hint-tried.ensures.tries
