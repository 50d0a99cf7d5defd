use Rattle.std.proofs.Common.{◌+◌, ◌≤◌, length, vec_capacity}
use Rattle.std.specs.Arc.{arc_value}
use Rattle.bl_ffi_seats.specs.Closed.{values}
use Rattle.bl_ffi_seats.proofs.Closings.{GivenSo}
use Rattle.bl_ffi_seats.proofs.closing.shut.Given as goal

abbrev pub invariant-loop-seats : goal.invariant-loop-seats
invariant-loop-seats l = record {
  given : GivenSo (arc_value l.index) (values l.fn.seats.items) l.seats.items l.hands.items;
  fits : length l.hands.items + length l.seats.items ≤ vec_capacity l.hands;
}

abbrev pub decreases-loop-seats : goal.decreases-loop-seats
decreases-loop-seats l = length l.seats.items
