use Rattle.std.proofs.Common.{arith, refl}
use Rattle.std.specs.Prelude.{slice_index_or}
use Rattle.bl_map.proofs.AllMet.{tells_none, tells_one, tells_all, tell_begins, tell_seated}
use Rattle.bl_map.proofs.meeting.tell_all.Goals as goal

pub loop-number-init : goal.loop-number-init
loop-number-init c = tells_none c.args.first.now c.args.others.now

pub tell-requires-clause-own : goal.tell-requires-clause-own
tell-requires-clause-own c = tell_seated c.args.index.now c.args.first.now c.loop-number.first c.index-others-number.result (slice_index_or c.loop-number.others c.loop-number.number c.index-others-number.result) c.args.others.now c.loop-number.others c.loop-number.number (omega arith) c.loop-number.invariant (omega arith) refl c.requires.own.1 c.requires.own.0

pub tell-requires-clause-begins : goal.tell-requires-clause-begins
tell-requires-clause-begins c = tell_begins c.args.first.now c.loop-number.first c.index-others-number.result (slice_index_or c.loop-number.others c.loop-number.number c.index-others-number.result) c.args.others.now c.loop-number.others c.loop-number.number (omega arith) c.loop-number.invariant (omega arith) refl c.requires.begins

pub loop-number-preserved : goal.loop-number-preserved
loop-number-preserved c = let e = c.tell.ensures in
    tells_one c.args.first.now c.loop-number.first c.tell.new.other c.index-others-number.result (slice_index_or c.loop-number.others c.loop-number.number c.index-others-number.result) c.tell.new.one c.args.others.now c.loop-number.others c.loop-number.number (omega arith) c.loop-number.invariant (omega arith) refl c.requires.begins e.other e.same.0 e.same.1 e.hears

pub returns : goal.returns
returns c = let l = c.loop-number.invariant in record {
  first = l.keeps;
  observed = tells_all c.args.first.now c.loop-number.first c.args.others.now c.loop-number.others c.loop-number.number (omega arith) (omega arith) l;
}
