use Rattle.bl_map_calls.proofs.Following.{changes_works}
use Rattle.bl_map.proofs.handle.Handle.write.Goals as goal

pub returns-clause-called : goal.returns-clause-called
returns-clause-called g c = changes_works _ _ _ _ _ _ _ _ c.write.ensures.changes
