use Rattle.std.proofs.Common.{refl}
use Rattle.bl_map_log.proofs.Noted.{keeps_upkeep}
use Rattle.bl_map_log.proofs.handle.NotingHandle.upkeep.Goals as goal

pub returns-clause-keeps : goal.returns-clause-keeps
returns-clause-keeps g c = keeps_upkeep _ _ c.upkeep.ensures.same c.upkeep.ensures.kept (record { came = refl; went = refl })
