use Rattle.std.proofs.Common.{◌++◌, [], refl, ◌∙◌, arith, subst}
use Rattle.bl_replay.specs.Plays.{HasAnswer}
use Rattle.bl_replay.specs.Plays.PrintsTurns.{Still, More}
use Rattle.bl_replay.proofs.Emitting.{emits_start, emits_more, emits_stop, err_of}
use Rattle.bl_replay.proofs.Following.{run_breaks}
use Rattle.bl_replay.proofs.commands.play_run.Goals as goal

pub loop-init : goal.loop-init
loop-init g c = record { text = []; printed = Still; emitted = emits_start _ c.args.pending.now.items; count = refl; size = refl; few = omega arith }

pub returns-in_err-play_chosen-in-None-clause-err : goal.returns-in_err-play_chosen-in-None-clause-err
returns-in_err-play_chosen-in-None-clause-err g c =
    let i = c.loop.invariant in
    let e = c.in_err-play_chosen-in-None.ensures.err in
    let unanswered = subst (HasAnswer c.loop.world c.args.number) c.in-None.is c.answer_of.ensures in
    let r = run_breaks c.args.with_pages c.args.number c.args.most c.loop.counter c.args.world.now c.loop.world i.text e.0 (omega (arith, c.loop-test.true)) i.printed unanswered e.1 in
    err_of c.from_residual.result (i.text ++ e.0, r.0, r.1, r.2, r.3, emits_stop _ _ _ c.args.pending.now.items c.loop.pending.items i.text e.0 i.emitted e.2)

pub loop-preserved : goal.loop-preserved
loop-preserved g c =
    let i = c.loop.invariant in
    let e = c.in_ok-play_chosen-in-None.ensures.ok in
    let unanswered = subst (HasAnswer c.loop.world c.args.number) c.in-None.is c.answer_of.ensures in
    record {
      text = i.text ++ e.0;
      printed = More c.loop.counter i.text e.0 c.loop.world c.play_chosen.new.world i.printed unanswered e.1;
      emitted = emits_more _ _ _ c.args.pending.now.items c.loop.pending.items c.play_chosen.new.pending.items i.text e.0 i.emitted e.2;
      count = c.in_ok-play_chosen-in-None.ensures.count ∙ i.count;
      size = c.in_ok-play_chosen-in-None.ensures.size ∙ i.size;
      few = omega (arith, c.loop-test.true);
    }
