use Rattle.bl_map_calls.proofs.Following.{leaving_works}
use Rattle.bl_map.proofs.handle.Handle.write_leaving.Goals as goal

pub returns-clause-called : goal.returns-clause-called
returns-clause-called g c = leaving_works _ _ _ _ _ _ _ c.write_leaving.ensures.leaves
