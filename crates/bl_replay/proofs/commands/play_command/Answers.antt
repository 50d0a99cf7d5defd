use Rattle.std.proofs.Common.{[], refl, inr}
use Rattle.bl_replay_script.specs.declared.command.Command.TheVariants as command
use Rattle.bl_replay.proofs.Emitting.{emits_start, ok_map, err_map}
use Rattle.bl_replay.proofs.Following.{partly_one}
use Rattle.bl_replay.proofs.commands.play_command.Goals as goal

pub returns-in-Start-clause-ok : goal.returns-in-Start-clause-ok
returns-in-Start-clause-ok g c = rw c.in-Start.is (ok_map c.start.result (λ h. ([], (h.0, h.1, h.2, refl), emits_start _ c.args.pending.now.items)) c.start.ensures.ok)

pub returns-in-Turn-clause-err : goal.returns-in-Turn-clause-err
returns-in-Turn-clause-err g c = rw c.in-Turn.is (err_map c.play_chosen.result (λ e. (e.0, partly_one c.args.with_pages c.args.world.now (command.Turn c.in-Turn.number) e.0 e.1, e.2)) c.play_chosen.ensures.err)

pub returns-in-TurnAt-clause-err : goal.returns-in-TurnAt-clause-err
returns-in-TurnAt-clause-err g c = rw c.in-TurnAt.is (err_map c.play_chosen-in-TurnAt.result (λ e. (e.0, partly_one c.args.with_pages c.args.world.now (command.TurnAt c.in-TurnAt.number c.in-TurnAt.page) e.0 e.1, e.2)) c.play_chosen-in-TurnAt.ensures.err)

pub returns-in-Refuse-clause-err : goal.returns-in-Refuse-clause-err
returns-in-Refuse-clause-err g c = rw c.in-Refuse.is (err_map c.play_turn.result (λ e. (e.0, partly_one c.args.with_pages c.args.world.now (command.Refuse c.in-Refuse.number) e.0 e.1, e.2)) c.play_turn.ensures.err)

pub returns-in-Settle-clause-err : goal.returns-in-Settle-clause-err
returns-in-Settle-clause-err g c = rw c.in-Settle.is (err_map c.play_settle.result (λ e. (e.0, inr (inr (inr (c.in-Settle.most, e.1, e.2, refl, e.3, e.4))), e.5)) c.play_settle.ensures.err)
