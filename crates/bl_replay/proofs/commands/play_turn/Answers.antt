use Rattle.std.proofs.Common.{inr}
use Rattle.bl_replay.proofs.Emitting.{err_map, stops_grown}
use Rattle.bl_replay.proofs.commands.play_turn.Goals as goal

pub returns-clause-err : goal.returns-clause-err
returns-clause-err g c =
    let e = c.in_ok-print_turn.ensures.ok in
    err_map c.write_much.result (λ h. (e.0, inr (c.print_turn.new.world, e.1), stops_grown _ _ c.args.pending.now.items c.print_turn.new.out.items e.0 e.2 h)) c.write_much.ensures.err
