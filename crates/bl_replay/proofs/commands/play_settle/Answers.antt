use Rattle.std.proofs.Common.{◌++◌, [], refl, ◌∙◌, arith}
use Rattle.bl_replay.specs.Plays.PrintsSettling.{Resting, Onward}
use Rattle.bl_replay.proofs.Emitting.{emits_start, emits_more, emits_stop, err_of}
use Rattle.bl_replay.proofs.Following.{goer_started, settle_breaks}
use Rattle.bl_replay.proofs.commands.play_settle.Goals as goal

pub loop-init : goal.loop-init
loop-init g c = record { text = []; printed = Resting; emitted = emits_start _ c.args.pending.now.items; count = refl; size = refl; few = omega arith }

pub play_chosen-requires : goal.play_chosen-requires
play_chosen-requires g c = goer_started c.loop.world c.in-Some.number c.in-Some.ensures.goes.0

pub returns-in_err-play_chosen-in-Some-clause-err : goal.returns-in_err-play_chosen-in-Some-clause-err
returns-in_err-play_chosen-in-Some-clause-err g c =
    let i = c.loop.invariant in
    let e = c.in_err-play_chosen-in-Some.ensures.err in
    let r = settle_breaks c.args.with_pages c.in-Some.number c.args.most c.loop.counter c.args.world.now c.loop.world i.text e.0 (omega (arith, c.loop-test.true)) i.printed c.in-Some.ensures.goes.0 e.1 in
    err_of c.from_residual.result (i.text ++ e.0, r.0, r.1, r.2, r.3, emits_stop _ _ _ c.args.pending.now.items c.loop.pending.items i.text e.0 i.emitted e.2)

pub loop-preserved : goal.loop-preserved
loop-preserved g c =
    let i = c.loop.invariant in
    let e = c.in_ok-play_chosen-in-Some.ensures.ok in
    record {
      text = i.text ++ e.0;
      printed = Onward c.loop.counter c.in-Some.number i.text e.0 c.loop.world c.play_chosen.new.world i.printed c.in-Some.ensures.goes.0 e.1;
      emitted = emits_more _ _ _ c.args.pending.now.items c.loop.pending.items c.play_chosen.new.pending.items i.text e.0 i.emitted e.2;
      count = c.in_ok-play_chosen-in-Some.ensures.count ∙ i.count;
      size = c.in_ok-play_chosen-in-Some.ensures.size ∙ i.size;
      few = omega (arith, c.loop-test.true);
    }
