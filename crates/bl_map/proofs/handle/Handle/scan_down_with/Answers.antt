use Rattle.std.proofs.Common.{refl}
use Rattle.bl_map_calls.proofs.Scanning.{nothing_down}
use Rattle.bl_map.proofs.handle.Handle.scan_down_with.Goals as goal

pub returns-then-low-from-clause-tells : goal.returns-then-low-from-clause-tells
returns-then-low-from-clause-tells g c = nothing_down _ _ _ _ _ c.args.from c.args.low _ _ refl c.if-low-from.true

pub returns-clause-tells : goal.returns-clause-tells
returns-clause-tells g c = rw c.end_below-to.ensures at c.tell.ensures.tells
