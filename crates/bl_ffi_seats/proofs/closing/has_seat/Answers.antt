use Rattle.std.proofs.Common.{ap, sym, ◌∙◌, arith}
use Rattle.bl_index.proofs.Gathered.{item_at}
use Rattle.bl_ffi_seats.specs.Seats.{seat_number}
use Rattle.bl_ffi_seats.proofs.Closings.{value_at, none_more, not_there}
use Rattle.bl_ffi_seats.proofs.closing.has_seat.Goals as goal

pub returns-then-number-clause-yes : goal.returns-then-number-clause-yes
returns-then-number-clause-yes c it =
    let box = c.seat-item.result in let i = c.loop-seat.seat-index in let seats = c.args.seats.now in
    (i, box.value, value_at seats i box (item_at seats i box (omega (arith, c.loop-seat-test.true)) c.seat-item.is), ap seat_number (sym c.deref.ensures) ∙ (sym c.number.ensures ∙ c.if-number.true))

pub loop-seat-preserved : goal.loop-seat-preserved
loop-seat-preserved c =
    let box = c.seat-item.result in let i = c.loop-seat.seat-index in let seats = c.args.seats.now in
    none_more seats i c.args.number box (item_at seats i box (omega (arith, c.loop-seat-test.true)) c.seat-item.is) (λ e. c.if-number.false (c.number.ensures ∙ (ap seat_number c.deref.ensures ∙ e))) c.loop-seat.invariant

pub returns-clause-no : goal.returns-clause-no
returns-clause-no c it = not_there c.args.seats.now c.loop-seat.seat-index c.args.number (omega (arith, c.loop-seat-test.false)) c.loop-seat.invariant
