use Rattle.std.proofs.Common.{arith}
use Rattle.bl_map_calls.proofs.Scanning.{below_is}
use Rattle.bl_map_calls.proofs.calls.end_below.Goals as goal

pub returns-else-low-eq0 : goal.returns-else-low-eq0
returns-else-low-eq0 c = below_is c.args.low (omega (arith, c.if-low-eq0.false))
