use Rattle.std.proofs.Common.{get_or, arith}
use Rattle.std.proofs.lemmas.Grind.{common_steps}
use Rattle.bl_load.proofs.Ordering.{below_more}
use Rattle.bl_load.proofs.making.collected.Goals as goal

pub loop-key-preserved : goal.loop-key-preserved
loop-key-preserved c = record { items = grind (arith, common_steps); fit = below_more _ c.loop-key.pairs.items c.push.new.self.items (get_or c.args.slice.now c.loop-key.key-index (0, 0)) c.loop-key.invariant.fit (omega arith) c.push.ensures.items }
