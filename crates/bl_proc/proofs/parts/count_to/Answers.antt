use Rattle.std.proofs.Common.{arith}
use Rattle.bl_proc.proofs.Rising.{first_above}
use Rattle.bl_proc.proofs.parts.count_to.Goals as goal

pub returns-then-from-row : goal.returns-then-from-row
returns-then-from-row c = first_above c.args.rows.now c.args.from c.loop-i.i c.requires c.loop-i-test.true c.loop-i.invariant (omega arith)
