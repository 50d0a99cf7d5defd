use Rattle.bl_ffi_seats.proofs.Begun.{all_begun}
use Rattle.bl_ffi_seats.proofs.opening.open_image.Goals as goal

pub shared-requires : goal.shared-requires
shared-requires c = all_begun _ _ _ c.in-Ok.index _ c.in-Ok.ensures.ok.begun
