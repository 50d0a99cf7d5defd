use Rattle.bl_index.proofs.Taken.{all_passes}
use Rattle.bl_ffi_seats.proofs.opening.open.Goals as goal

pub shared-requires : goal.shared-requires
shared-requires c = all_passes _ c.in-Ok.index _ c.in-Ok.ensures.ok
