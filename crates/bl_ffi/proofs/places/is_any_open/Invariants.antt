use Rattle.std.proofs.Common.{◌≡◌, ◌++◌, drop, length}
use Rattle.bl_ffi.specs.Places.{seats_in, closed}
use Rattle.bl_ffi.proofs.places.is_any_open.Given as goal

abbrev pub invariant-loop-number : goal.invariant-loop-number
invariant-loop-number l = record {
  long : length l.places ≡ length l.fn.places;
  kept : seats_in l.places ≡ seats_in l.fn.places;
  so_far : seats_in l.fn.places ≡ closed l.number ++ drop l.number (seats_in l.fn.places);
}
