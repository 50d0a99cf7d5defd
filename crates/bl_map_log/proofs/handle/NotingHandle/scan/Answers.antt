use Rattle.std.proofs.Common.{refl}
use Rattle.bl_map_log.proofs.Noted.{keeps_scan}
use Rattle.bl_map_log.proofs.handle.NotingHandle.scan.Goals as goal

pub returns-clause-keeps : goal.returns-clause-keeps
returns-clause-keeps g c = keeps_scan _ _ _ _ _ _ _ _ _ _ _ c.scan.ensures.same c.scan.ensures.scanned (record { came = refl; went = refl })
