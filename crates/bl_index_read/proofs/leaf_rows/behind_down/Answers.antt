use Rattle.bl_index_read.proofs.Portions.{goes_down, ends_down}
use Rattle.bl_index_read.proofs.leaf_rows.behind_down.Goals as goal

pub returns-then-least-low : goal.returns-then-least-low
returns-then-least-low c = λ to next is goes. goes_down to c.args.least c.args.low 0 next is goes c.if-least-low.true c.ranges.low.fits

pub returns-else-least-low : goal.returns-else-least-low
returns-else-least-low c = λ to next is goes. ends_down to c.args.least c.args.low next is goes c.if-least-low.false
