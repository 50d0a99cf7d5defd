use Rattle.bl_index.proofs.Taken.{all_passes}
use Rattle.test_map.proofs.maps.seats.opened.Goals as goal

pub returns-in-Ok : goal.returns-in-Ok
returns-in-Ok c = all_passes _ c.in-Ok.index c.in-Ok.passes.items c.in-Ok.ensures.ok
