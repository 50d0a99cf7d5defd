use Rattle.std.proofs.Common.{List, refl, sym, ap, subst}
use Rattle.std.specs.Arc.{arc_value}
use Rattle.bl_ffi_seats.specs.Closed.{values, HaveClosed, IsFor, IsNotPrepared, IsNotClosed}
use Rattle.bl_ffi_seats.specs.declared.closing.CloseFault.{CloseFault}
use Rattle.bl_ffi_seats.specs.declared.closing.CloseFault.TheVariants as fault
use Rattle.bl_ffi_seats.proofs.Closings.{Boxed, complete}
use Rattle.bl_ffi_seats.specs.declared.seat.Seat.{Seat}
use Rattle.bl_ffi_seats.proofs.closing.close.Goals as goal

not_prepared : (seats : List Seat) (why : CloseFault) → IsNotPrepared seats why → IsNotClosed seats seats why
not_prepared seats fault.Missing h = (refl, h)
not_prepared seats fault.Shared h = (h, refl)
not_prepared seats fault.Memory h = (h, refl)
not_prepared seats fault.Lost h = absurd h

pub returns-in-Err-clause-fault : goal.returns-in-Err-clause-fault
returns-in-Err-clause-fault c = not_prepared (values c.args.seats.items) c.in-Err.why (subst (λ (z : List Boxed). IsNotPrepared (values z) c.in-Err.why) c.as_slice.ensures.value c.in-Err.ensures.fault)

pub shut-requires : goal.shut-requires
shut-requires c = subst (λ (z : List Boxed). IsFor (values z) c.in-Ok.prepared) c.as_slice.ensures.value c.in-Ok.ensures.ok

pub returns-in-Err-shut-clause-fault : goal.returns-in-Err-shut-clause-fault
returns-in-Err-shut-clause-fault c =
    let items = c.args.seats.items in
    let ready : IsFor (values items) c.in-Ok.prepared = subst (λ (z : List Boxed). IsFor (values z) c.in-Ok.prepared) c.as_slice.ensures.value c.in-Ok.ensures.ok in
    subst (λ (z : CloseFault). IsNotClosed (values items) (values c.new.result.items) z) (sym c.in-Err-shut.ensures.fault)
    (complete (arc_value c.in-Ok.prepared.index) (values items) ready.at ready.all, ap values c.new.ensures.items)
