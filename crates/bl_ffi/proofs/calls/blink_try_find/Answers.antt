use Rattle.std.proofs.Common.{Some, inl, inr, refl, sym, ap, ◌∙◌}
use Rattle.bl_ffi_seats.specs.declared.seat.Seat.{Seat}
use Rattle.bl_ffi.proofs.Called.{called, code_kept}
use Rattle.bl_ffi.proofs.calls.blink_try_find.Goals as goal

pub returns-in-Some-answer : goal.returns-in-Some-answer
returns-in-Some-answer c =
    let was = c.in-Some.ensures.held ∙ ap (λ (z : Seat). Some z) (sym c.deref_mut.ensures.value) in
    called c.args.seat.now c.put_back.new.place _ _ c.deref_mut.result.now c.find-answer.new.self was c.put_back.ensures c.find-answer.ensures.same
    (c.find-answer.ensures.keeps, inr (c.in-Some-answer.reply, code_kept c.in-Some-answer.reply _ _ c.told.ensures, c.in-Some-answer.ensures.found))

pub returns-in-None : goal.returns-in-None
returns-in-None c =
    let was = c.in-Some.ensures.held ∙ ap (λ (z : Seat). Some z) (sym c.deref_mut.ensures.value) in
    called c.args.seat.now c.put_back.new.place _ _ c.deref_mut.result.now c.find-answer.new.self was c.put_back.ensures c.find-answer.ensures.same
    (c.find-answer.ensures.keeps, inl (refl, c.in-None.ensures.found))
