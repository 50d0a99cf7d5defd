use Rattle.std.proofs.Common.{suc, refl, arith}
use Rattle.std.specs.Prelude.{slice_index_or}
use Rattle.bl_serve.proofs.Shares.{turns_none, turns_more, turns_all}
use Rattle.bl_serve.proofs.chunks.work_in_turn.Goals as goal

pub loop-number-init : goal.loop-number-init
loop-number-init g c = turns_none c.args.chunk.now.service.now.keeps (suc c.args.chunk.now.before) c.args.chunk.now.deals.now c.args.chunk.now.lines.now c.args.handles.now c.args.slots.now

pub loop-number-preserved : goal.loop-number-preserved
loop-number-preserved g c = let t = c.loop-number.invariant in let e = t.long in let f = t.many in let same = c.requires in
    turns_more c.args.chunk.now.service.now.keeps (suc c.args.chunk.now.before) c.args.chunk.now.deals.now c.args.chunk.now.lines.now c.args.handles.now c.loop-number.handles c.args.slots.now c.loop-number.slots c.loop-number.number (slice_index_or c.loop-number.handles c.loop-number.number c.index-handles-number.result) c.work_on.new.handle c.index-handles-number.result c.work_on.new.slot
    t (omega arith) (omega (arith, e, f, same)) refl c.work_on.ensures

pub returns : goal.returns
returns g c = turns_all c.args.chunk.now.service.now.keeps (suc c.args.chunk.now.before) c.args.chunk.now.deals.now c.args.chunk.now.lines.now c.args.handles.now c.loop-number.handles c.args.slots.now c.loop-number.slots c.loop-number.number c.requires (omega arith) c.loop-number.invariant
