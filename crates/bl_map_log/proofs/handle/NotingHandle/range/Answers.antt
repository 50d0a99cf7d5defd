use Rattle.std.proofs.Common.{refl}
use Rattle.bl_map_log.proofs.Noted.{keeps_range}
use Rattle.bl_map_log.proofs.handle.NotingHandle.range.Goals as goal

pub returns-clause-keeps : goal.returns-clause-keeps
returns-clause-keeps g c = keeps_range _ _ _ _ _ _ _ _ _ _ _ c.range.ensures.same c.range.ensures.ranged c.range.ensures.none (record { came = refl; went = refl })
