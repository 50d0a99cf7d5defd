use Rattle.bl_map_log.proofs.Committed.{calls_keep}
use Rattle.bl_map_log.proofs.log.calls_keep_log.Goals as goal

pub returns : goal.returns
returns g c = calls_keep g.D.Device.seen g.D.Device.moment g.D.Device.leaves
