use Rattle.std.proofs.Common.{Some, inl, inr, refl, sym, ap, subst, ◌∙◌}
use Rattle.std.specs.Prelude.{Result, IfOk, IfErr}
use Rattle.bl_model.specs.declared.operation.Reply.{Reply}
use Rattle.bl_proc.specs.Parts.{op_toward}
use Rattle.bl_index.specs.declared.OutOfTurns.{OutOfTurns}
use Rattle.bl_ffi_seats.specs.declared.seat.Seat.{Seat}
use Rattle.bl_ffi_seats.specs.Seats.{HasFound, HasRunOut}
use Rattle.bl_ffi_seats.proofs.PartReplies.{part_may}
use Rattle.bl_ffi.proofs.Called.{called}
use Rattle.bl_ffi.proofs.Listing.{part_has_rows}
use Rattle.bl_ffi.proofs.calls.list.Goals as goal

pub listed-requires : goal.listed-requires
listed-requires c =
    let op = op_toward c.args.direction c.args.from in
    let found : HasFound op c.in-Ok.reply c.deref_mut.result.now c.part-answer.new.self = subst (λ (z : Result Reply OutOfTurns). IfOk z (λ r. HasFound op r c.deref_mut.result.now c.part-answer.new.self)) c.in-Ok.is c.part-answer.ensures.found in
    let may = part_may _ _ _ _ op c.in-Ok.reply _ _ found in
    part_has_rows may.0 c.args.direction c.args.from c.in-Ok.reply may.1

pub returns-in-Ok-clause-told : goal.returns-in-Ok-clause-told
returns-in-Ok-clause-told c = λ enough.
    let was = c.in-Some.ensures.held ∙ ap (λ (z : Seat). Some z) (sym c.deref_mut.ensures.value) in
    let e = c.part-answer in let op = op_toward c.args.direction c.args.from in
    let found : HasFound op c.in-Ok.reply c.deref_mut.result.now e.new.self = subst (λ (z : Result Reply OutOfTurns). IfOk z (λ r. HasFound op r c.deref_mut.result.now e.new.self)) c.in-Ok.is e.ensures.found in
    called c.args.seat.now c.put_back.new.place _ _ c.deref_mut.result.now e.new.self was c.put_back.ensures e.ensures.same
    (e.ensures.keeps, inr (refl, (c.in-Ok.reply, found, c.listed.ensures)))

pub returns-in-Err-clause-told : goal.returns-in-Err-clause-told
returns-in-Err-clause-told c = λ enough.
    let was = c.in-Some.ensures.held ∙ ap (λ (z : Seat). Some z) (sym c.deref_mut.ensures.value) in
    let e = c.part-answer in
    let out : HasRunOut c.deref_mut.result.now e.new.self = subst (λ (z : Result Reply OutOfTurns). IfErr z (λ fault. HasRunOut c.deref_mut.result.now e.new.self)) c.in-Err.is e.ensures.runs_out in
    called c.args.seat.now c.put_back.new.place _ _ c.deref_mut.result.now e.new.self was c.put_back.ensures e.ensures.same
    (e.ensures.keeps, inl (refl, out))
