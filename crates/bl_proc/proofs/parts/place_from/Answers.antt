use Rattle.std.proofs.Common.{arith}
use Rattle.bl_proc.proofs.Rising.{first_from}
use Rattle.bl_proc.proofs.parts.place_from.Goals as goal

pub returns-then-from-row : goal.returns-then-from-row
returns-then-from-row c = first_from c.args.rows.now c.args.from c.loop-i.i c.requires c.loop-i-test.true c.loop-i.invariant (omega arith)
