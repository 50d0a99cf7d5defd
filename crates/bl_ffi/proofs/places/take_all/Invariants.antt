use Rattle.std.proofs.Common.{◌≡◌, ◌≤◌, length, vec_capacity}
use Rattle.bl_ffi_seats.specs.Closed.{values}
use Rattle.bl_ffi.specs.Places.{seats_in}
use Rattle.bl_ffi.proofs.Placing.{TakeSo}
use Rattle.bl_ffi.proofs.places.take_all.Given as goal

abbrev pub invariant-loop-number : goal.invariant-loop-number
invariant-loop-number l = record {
  long : length l.places ≡ length l.fn.places;
  fits : length l.fn.places ≤ vec_capacity l.boxes;
  many : length l.boxes.items ≡ l.number;
  so : TakeSo (seats_in l.fn.places) (seats_in l.places) (values l.boxes.items) l.number;
}
