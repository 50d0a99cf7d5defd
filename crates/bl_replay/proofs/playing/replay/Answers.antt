use Rattle.std.proofs.Common.{[], inr, subst, sym, append-nil}
use Rattle.bl_replay.specs.Plays.{Plays, BreaksOff}
use Rattle.bl_replay.specs.Plays.BreaksOff.{Behind}
use Rattle.bl_replay.proofs.Emitting.{ok_map, err_map, err_of, emits_all, emits_last, stops_first}
use Rattle.bl_replay.proofs.playing.replay.Goals as goal

pub returns-in_err-play_all-clause-err : goal.returns-in_err-play_all-clause-err
returns-in_err-play_all-clause-err g c =
    let e = c.in_err-play_all.ensures.err in
    let start = c.in-Ok.world in
    err_of c.from_residual.result (
      e.0,
      inr (start, c.in-Ok.ensures.ok, subst (λ z. BreaksOff c.args.with_pages start z e.0) c.as_slice.ensures.value e.1),
      stops_first _ _ c.new-pending.result.items e.0 c.new-pending.ensures.items e.2,
    )

pub returns-clause-ok : goal.returns-clause-ok
returns-clause-ok g c =
    let e = c.in_ok-play_all.ensures.ok in
    let start = c.in-Ok.world in
    let end = c.play_all.new.world in
    ok_map c.write_last.result (λ h. (
      e.0,
      (start, end, c.in-Ok.ensures.ok, subst (λ z. Plays c.args.with_pages start z e.0 end) c.as_slice.ensures.value e.1, c.in_ok-play_all.ensures.account),
      emits_all _ _ _ c.new-pending.result.items c.play_all.new.pending.items e.0 c.new-pending.ensures.items e.2 h,
    )) c.write_last.ensures.ok

pub returns-clause-err : goal.returns-clause-err
returns-clause-err g c =
    let e = c.in_ok-play_all.ensures.ok in
    let start = c.in-Ok.world in
    let end = c.play_all.new.world in
    let commands = c.args.script.now.commands.items in
    err_map c.write_last.result (λ h. (
      e.0,
      inr (start, c.in-Ok.ensures.ok, Behind commands [] e.0 end (sym (append-nil commands)) (subst (λ z. Plays c.args.with_pages start z e.0 end) c.as_slice.ensures.value e.1)),
      emits_last _ _ _ c.new-pending.result.items c.play_all.new.pending.items e.0 c.new-pending.ensures.items e.2 h,
    )) c.write_last.ensures.err
