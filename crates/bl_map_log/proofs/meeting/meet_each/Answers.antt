use Rattle.std.proofs.Common.{arith, refl}
use Rattle.std.specs.Prelude.{slice_index_or}
use Rattle.bl_map_log.proofs.Rounds.{meets_none, meets_one, meets_all, next_of_one}
use Rattle.bl_map_log.proofs.meeting.meet_each.Goals as goal

pub loop-number-init : goal.loop-number-init
loop-number-init c = meets_none c.args.one.now c.args.others.now

pub meet-requires : goal.meet-requires
meet-requires c = next_of_one c.args.one.now c.loop-number.one c.index-others-number.result (slice_index_or c.loop-number.others c.loop-number.number c.index-others-number.result) c.args.others.now c.loop-number.others c.loop-number.number (omega arith) c.loop-number.invariant (omega arith) refl c.requires

pub loop-number-preserved : goal.loop-number-preserved
loop-number-preserved c = let e = c.meet.ensures in
    meets_one c.args.one.now c.loop-number.one c.meet.new.one c.index-others-number.result (slice_index_or c.loop-number.others c.loop-number.number c.index-others-number.result) c.meet.new.two c.args.others.now c.loop-number.others c.loop-number.number (omega arith) c.loop-number.invariant (omega arith) refl e.one e.two e.same

pub returns : goal.returns
returns c = meets_all c.args.one.now c.loop-number.one c.args.others.now c.loop-number.others c.loop-number.number (omega arith) (omega arith) c.loop-number.invariant
