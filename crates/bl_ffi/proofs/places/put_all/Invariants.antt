use Rattle.std.proofs.Common.{◌≡◌, ◌+◌, ◌≤◌, length}
use Rattle.bl_ffi_seats.specs.Closed.{values}
use Rattle.bl_ffi.specs.Places.{seats_in}
use Rattle.bl_ffi.proofs.Placing.{PutSo}
use Rattle.bl_ffi.proofs.places.put_all.Given as goal

abbrev pub invariant-loop-number : goal.invariant-loop-number
invariant-loop-number l = record {
  long : length l.places ≡ length l.fn.places;
  fits : l.number + length l.boxes.items ≤ length l.fn.places;
  put : PutSo (seats_in l.fn.places) (seats_in l.places) (values l.fn.boxes.items) (values l.boxes.items) l.number;
}
