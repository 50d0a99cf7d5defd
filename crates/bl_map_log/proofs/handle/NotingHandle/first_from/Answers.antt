use Rattle.std.proofs.Common.{refl}
use Rattle.bl_map_log.proofs.Noted.{keeps_scanned}
use Rattle.bl_map_log.proofs.handle.NotingHandle.first_from.Goals as goal

pub returns-clause-keeps : goal.returns-clause-keeps
returns-clause-keeps g c = let found = c.first_from.ensures.found in keeps_scanned _ _ _ _ found.rows _ _ c.first_from.ensures.same found.scanned (record { came = refl; went = refl })
