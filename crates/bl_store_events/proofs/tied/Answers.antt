use Rattle.bl_store_events.proofs.Events.{tied}
use Rattle.bl_store_events.proofs.tied.Goals as goal

pub returns : goal.returns
returns g c = tied _
