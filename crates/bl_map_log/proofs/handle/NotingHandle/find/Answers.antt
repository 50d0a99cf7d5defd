use Rattle.std.proofs.Common.{refl}
use Rattle.bl_map_log.proofs.Noted.{keeps_find}
use Rattle.bl_map_log.proofs.handle.NotingHandle.find.Goals as goal

pub returns-clause-keeps : goal.returns-clause-keeps
returns-clause-keeps g c = keeps_find c.args.key _ _ _ c.find.ensures.same c.find.ensures.called (record { came = refl; went = refl })
