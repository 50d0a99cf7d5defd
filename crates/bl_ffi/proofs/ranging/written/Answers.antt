use Rattle.std.proofs.Common.{inl, refl}
use Rattle.bl_ffi.proofs.ranging.written.Goals as goal

pub returns : goal.returns
returns c = (refl, inl (refl, c.copied.ensures))
