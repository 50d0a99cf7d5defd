use Rattle.std.proofs.Common.{◌++◌, [], length, refl, ◌∙◌, arith}
use Rattle.std.proofs.lemmas.Option.{slice_get-get_or}
use Rattle.bl_model.specs.declared.operation.Op.TheVariants as op
use Rattle.bl_replay_script.specs.declared.command.Start.TheVariants as start
use Rattle.bl_replay_script.specs.declared.command.Command.TheVariants as command
use Rattle.bl_replay.specs.Plays.{all_kinds}
use Rattle.bl_replay.specs.Plays.Plays.{Nothing}
use Rattle.bl_replay.proofs.Emitting.{emits_start, emits_more, emits_stop, err_of}
use Rattle.bl_replay.proofs.Following.{stands_sized, plays_further, started_further, breaks_off}
use Rattle.bl_replay.proofs.playing.play_all.Goals as goal

pub loop-command-init : goal.loop-command-init
loop-command-init g c = record { text = []; played = Nothing; emitted = emits_start _ c.args.pending.now.items; count = omega arith; size = refl }

pub play_command-requires : goal.play_command-requires
play_command-requires g c =
    let i = c.loop-command.command-index in
    let commands = c.args.commands.now in
    let at = slice_get-get_or commands i (command.Start (start.Operation (op.Find 0))) (omega (arith, c.loop-command-test.true)) in
    stands_sized all_kinds (length c.args.world.now.pages) _ (length c.args.world.now.processes) _ commands i _ c.loop-command.invariant.size c.loop-command.invariant.count c.requires at

pub returns-in_err-play_command-clause-err : goal.returns-in_err-play_command-clause-err
returns-in_err-play_command-clause-err g c =
    let i = c.loop-command.command-index in
    let commands = c.args.commands.now in
    let at = slice_get-get_or commands i (command.Start (start.Operation (op.Find 0))) (omega (arith, c.loop-command-test.true)) in
    let n = c.loop-command.invariant in
    let e = c.in_err-play_command.ensures.err in
    err_of c.from_residual.result (
      n.text ++ e.0,
      breaks_off c.args.with_pages c.args.world.now c.loop-command.world commands i _ n.text e.0 at n.played e.1,
      emits_stop _ _ _ c.args.pending.now.items c.loop-command.pending.items n.text e.0 n.emitted e.2,
    )

pub loop-command-preserved : goal.loop-command-preserved
loop-command-preserved g c =
    let i = c.loop-command.command-index in
    let commands = c.args.commands.now in
    let at = slice_get-get_or commands i (command.Start (start.Operation (op.Find 0))) (omega (arith, c.loop-command-test.true)) in
    let n = c.loop-command.invariant in
    let e = c.in_ok-play_command.ensures.ok in
    let more = started_further commands i _ at in
    record {
      text = n.text ++ e.0;
      played = plays_further c.args.with_pages c.args.world.now c.loop-command.world c.play_command.new.world commands i _ n.text e.0 at n.played e.1;
      emitted = emits_more _ _ _ c.args.pending.now.items c.loop-command.pending.items c.play_command.new.pending.items n.text e.0 n.emitted e.2;
      count = omega (arith, more, n.count, c.in_ok-play_command.ensures.count);
      size = c.in_ok-play_command.ensures.size ∙ n.size;
    }
