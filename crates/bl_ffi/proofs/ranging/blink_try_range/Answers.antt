use Rattle.std.proofs.Common.{ℕ, Option, Some, List, inl, inr, refl, sym, ap, ◌∙◌, subst}
use Rattle.bl_ffi_seats.specs.declared.seat.Seat.{Seat}
use Rattle.bl_ffi_seats.specs.Seats.{HasRead, HasStopped}
use Rattle.bl_ffi.specs.Ranged.{IsWritten}
use Rattle.bl_ffi.proofs.Called.{called}
use Rattle.bl_ffi.proofs.RangeCodes.{stop_kept, written_kept}
use Rattle.bl_ffi.proofs.ranging.blink_try_range.Goals as goal

pub returns-in-Ok-clause-told : goal.returns-in-Ok-clause-told
returns-in-Ok-clause-told c = λ up.
    let was = c.in-Some.ensures.held ∙ ap (λ (z : Seat). Some z) (sym c.deref_mut.ensures.value) in
    let e = c.range-done in
    let read = subst (λ (z : Option ℕ). HasRead c.args.from z c.in-Ok.pairs.items c.deref_mut.result.now e.new.self) c.end_behind.ensures c.in-Ok.ensures.ranged in
    let rows = subst (λ (z : List (ℕ × ℕ)). IsWritten z c.args.rows.now c.written.new.rows c.written.new.count c.written.result) c.as_slice.ensures.value c.written.ensures in
    called c.args.seat.now c.put_back-2.new.place _ _ c.deref_mut.result.now e.new.self was c.put_back-2.ensures e.ensures.same
    (e.ensures.keeps, inl (c.in-Ok.pairs.items, read, written_kept _ _ _ _ _ rows))

pub returns-in-Err-clause-told : goal.returns-in-Err-clause-told
returns-in-Err-clause-told c = λ up.
    let was = c.in-Some.ensures.held ∙ ap (λ (z : Seat). Some z) (sym c.deref_mut.ensures.value) in
    let e = c.range-done in
    let stopped = subst (λ (z : Option ℕ). HasStopped c.args.from z c.args.rounds c.in-Err.why c.deref_mut.result.now e.new.self) c.end_behind.ensures c.in-Err.ensures.ranged in
    called c.args.seat.now c.put_back-2.new.place _ _ c.deref_mut.result.now e.new.self was c.put_back-2.ensures e.ensures.same
    (e.ensures.keeps, inr (c.in-Err.why, stop_kept c.in-Err.why _ c.code_of.ensures, stopped, refl, refl))
