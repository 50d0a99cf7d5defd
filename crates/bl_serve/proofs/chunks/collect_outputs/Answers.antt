use Rattle.std.proofs.Common.{arith}
use Rattle.bl_serve.proofs.Shares.{collect_none, collect_more, collects_all}
use Rattle.bl_serve.proofs.chunks.collect_outputs.Goals as goal

pub loop-number-init : goal.loop-number-init
loop-number-init c = collect_none c.args.slots.now.items c.new-outputs.result.items c.new-outputs.ensures.items

pub loop-number-preserved : goal.loop-number-preserved
loop-number-preserved c = let e = c.in_ok-take_outputs.ensures in let low = c.loop-number-test.true in let v = c.loop-number.slots.ok in let is = c.index_mut.ensures.value in
    collect_more c.args.slots.now.items c.loop-number.slots.items c.loop-number.outputs.items c.take_outputs.new.outputs.items c.loop-number.number c.index_mut.result.now c.take_outputs.new.slot c.index_mut.result.now c.loop-number.invariant (omega arith) is e.0 e.1

pub returns-clause-collects : goal.returns-clause-collects
returns-clause-collects c = let low = c.loop-number-test.false in let v = c.loop-number.slots.ok in collects_all c.args.slots.now.items c.loop-number.slots.items c.loop-number.outputs.items c.loop-number.number (omega arith) c.loop-number.invariant
