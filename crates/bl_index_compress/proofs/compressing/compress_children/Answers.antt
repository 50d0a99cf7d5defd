use Rattle.std.proofs.Common.{refl}
use Rattle.bl_index_compress.proofs.compressing.compress_children.Goals as goal

pub returns-clause-compressed : goal.returns-clause-compressed
returns-clause-compressed g c = (_, refl, c.compress_until.ensures.over.is_compressed _ _ c.begin_descent.ensures.begun)
