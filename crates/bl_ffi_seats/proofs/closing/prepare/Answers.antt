use Rattle.std.proofs.Common.{◌≡◌, ◌<◌, refl, sym, ap, ◌∙◌, subst, arith}
use Rattle.std.specs.Arc.{arc_value}
use mathlib.Core.Option.{some}
use lib.ListN.{get_elem?}
use Rattle.bl_index.specs.Calls.{pages_of, passes_of}
use Rattle.bl_index.specs.Closed.{HasCapacity}
use Rattle.bl_index.specs.declared.index.Index.{Index}
use Rattle.bl_ffi_seats.specs.Closed.{values, IsAtIndex}
use Rattle.bl_ffi_seats.specs.declared.seat.Seat.{Seat}
use Rattle.std.specs.Prelude.{All}
use Rattle.bl_ffi_seats.proofs.Closings.{Boxed, at_one, all_lack, value_at, first_there, count_of, all_complete, map_length}
use Rattle.bl_ffi_seats.proofs.closing.prepare.Goals as goal

pub returns-then-not-has_all-clause-fault : goal.returns-then-not-has_all-clause-fault
returns-then-not-has_all-clause-fault c =
    let seats = c.args.seats.now in let box = c.in-Some.first.now in let index = arc_value box.value.index in
    let there : get_elem? (values seats) 0 ≡ some box.value = value_at seats 0 box (first_there seats box c.in-Some.ensures.value) in
    let count = count_of _ _ _ box c.tree.ensures c.deref-2.ensures c.deref.ensures in
    let lacks = c.if-not-has_all.ensures.no refl in
    all_lack (values seats) 0 box.value there c.requires (lacks.0, (let low = lacks.1 in omega (arith, low, count)), lacks.2)

pub returns-in-Ok-try_clone-clause-ok : goal.returns-in-Ok-try_clone-clause-ok
returns-in-Ok-try_clone-clause-ok c =
    let seats = c.args.seats.now in let box = c.in-Some.first.now in let index = arc_value box.value.index in
    let there : get_elem? (values seats) 0 ≡ some box.value = value_at seats 0 box (first_there seats box c.in-Some.ensures.value) in
    let count = count_of _ _ _ box c.tree.ensures c.deref-2.ensures c.deref.ensures in
    let share : arc_value c.in-Ok-try_clone.index ≡ index = c.in-Ok-try_clone.ensures ∙ ap (λ (z : Seat). arc_value z.index) c.deref-6.ensures in
    let room : c.deref-5.result.now ≡ index = c.deref-5.ensures ∙ ap (λ (z : Seat). arc_value z.index) c.deref-4.ensures in
    record {
      at = subst (λ (z : Index). All (IsAtIndex z) (values seats)) (sym share) (at_one (values seats) 0 box.value there c.requires);
      all = λ n lt. c.if-not-has_all.ensures.yes refl n (let low : n < passes_of index = subst (λ (z : Index). n < passes_of z) share lt in omega (arith, low, count));
      empty = c.in-Ok-with_capacity.ensures.items;
      fits = (let cap = c.in-Ok-with_capacity.ensures.capacity in let long = map_length (λ (z : Boxed). z.value) seats in omega (arith, cap, long));
      room = subst (λ (z : Index). HasCapacity (pages_of z) c.in-Ok.room) (room ∙ sym share) c.in-Ok.ensures;
    }

pub returns-then-strong_count-seats-clause-fault : goal.returns-then-strong_count-seats-clause-fault
returns-then-strong_count-seats-clause-fault c = all_complete c.args.seats.now c.in-Some.first.now _ c.in-Some.ensures.value (count_of _ _ _ c.in-Some.first.now c.tree.ensures c.deref-2.ensures c.deref.ensures) c.requires (c.if-not-has_all.ensures.yes refl)

pub returns-in_default-close_room-clause-fault : goal.returns-in_default-close_room-clause-fault
returns-in_default-close_room-clause-fault c = all_complete c.args.seats.now c.in-Some.first.now _ c.in-Some.ensures.value (count_of _ _ _ c.in-Some.first.now c.tree.ensures c.deref-2.ensures c.deref.ensures) c.requires (c.if-not-has_all.ensures.yes refl)

pub returns-in_default-with_capacity-clause-fault : goal.returns-in_default-with_capacity-clause-fault
returns-in_default-with_capacity-clause-fault c = all_complete c.args.seats.now c.in-Some.first.now _ c.in-Some.ensures.value (count_of _ _ _ c.in-Some.first.now c.tree.ensures c.deref-2.ensures c.deref.ensures) c.requires (c.if-not-has_all.ensures.yes refl)

pub returns-in-Err-clause-fault : goal.returns-in-Err-clause-fault
returns-in-Err-clause-fault c = all_complete c.args.seats.now c.in-Some.first.now _ c.in-Some.ensures.value (count_of _ _ _ c.in-Some.first.now c.tree.ensures c.deref-2.ensures c.deref.ensures) c.requires (c.if-not-has_all.ensures.yes refl)
