use Rattle.bl_map.proofs.Ordered.{keep_order}
use Rattle.bl_map.proofs.ordering.stamps_keep_order.Goals as goal

pub returns : goal.returns
returns c = keep_order
