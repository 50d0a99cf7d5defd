use Rattle.bl_map_calls.proofs.Following.{tidies_adds}
use Rattle.bl_map.proofs.handle.Handle.tidy.Goals as goal

pub returns-clause-kept : goal.returns-clause-kept
returns-clause-kept g c = tidies_adds _ _ _ _ _ _ c.tidy.ensures.tidies
