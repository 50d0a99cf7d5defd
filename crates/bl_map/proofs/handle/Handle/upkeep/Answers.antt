use Rattle.bl_map_calls.proofs.Following.{again_adds}
use Rattle.bl_map.proofs.handle.Handle.upkeep.Goals as goal

pub returns-clause-kept : goal.returns-clause-kept
returns-clause-kept g c = again_adds _ _ _ _ _ _ _ c.try_again.ensures.tries
