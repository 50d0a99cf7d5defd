use Rattle.std.proofs.Common.{Some, inl, inr, refl, sym, ap, ◌∙◌}
use Rattle.bl_ffi_seats.specs.declared.seat.Seat.{Seat}
use Rattle.bl_ffi.proofs.Called.{called, not_true}
use Rattle.bl_ffi.proofs.calls.blink_try_upkeep.Goals as goal

pub returns-then-done : goal.returns-then-done
returns-then-done c =
    let was = c.in-Some.ensures.held ∙ ap (λ (z : Seat). Some z) (sym c.deref_mut.ensures.value) in
    let e = c.upkeep-done.ensures in
    called c.args.seat.now c.put_back.new.place _ _ c.deref_mut.result.now c.upkeep-done.new.self was c.put_back.ensures e.same (e.kept, inl (refl, e.done.0 c.if-done.true))

pub returns-else-done : goal.returns-else-done
returns-else-done c =
    let was = c.in-Some.ensures.held ∙ ap (λ (z : Seat). Some z) (sym c.deref_mut.ensures.value) in
    let e = c.upkeep-done.ensures in
    called c.args.seat.now c.put_back.new.place _ _ c.deref_mut.result.now c.upkeep-done.new.self was c.put_back.ensures e.same
    (e.kept, inr (refl, λ idle. not_true c.upkeep-done.result c.if-done.false (e.done.1 idle)))
