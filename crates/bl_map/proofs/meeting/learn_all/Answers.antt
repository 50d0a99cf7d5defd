use Rattle.std.proofs.Common.{arith, refl}
use Rattle.std.specs.Prelude.{slice_index_or}
use Rattle.bl_index.specs.Calls.{first_of}
use Rattle.bl_map.proofs.AllMet.{learns_none, learns_one, learns_all, seated_as, seated_at}
use Rattle.bl_map.proofs.meeting.learn_all.Goals as goal

pub loop-number-init : goal.loop-number-init
loop-number-init c = learns_none (first_of c.args.index.now) c.args.first.now c.args.others.now

pub learn-requires : goal.learn-requires
learn-requires c = let l = c.loop-number.invariant in (
  seated_as c.args.index.now c.args.first.now c.loop-number.first l.same c.requires.own.0,
  seated_at c.args.index.now c.args.others.now c.loop-number.others c.loop-number.number c.index-others-number.result c.requires.own.1 l.kept (omega arith),
)

pub loop-number-preserved : goal.loop-number-preserved
loop-number-preserved c = let l = c.loop-number.invariant in let e = c.learn.ensures in
    learns_one (first_of c.args.index.now) c.args.first.now c.loop-number.first c.learn.new.one c.index-others-number.result (slice_index_or c.loop-number.others c.loop-number.number c.index-others-number.result) c.learn.new.other c.args.others.now c.loop-number.others c.loop-number.number l (omega arith) refl e.same.0 e.same.1 e.other e.learns e.seen

pub returns : goal.returns
returns c = record { learns = learns_all (first_of c.args.index.now) c.args.first.now c.loop-number.first c.args.others.now c.loop-number.others c.loop-number.number (omega arith) c.loop-number.invariant }
