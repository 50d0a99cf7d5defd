use Rattle.std.proofs.Common.{ℕ, ◌≡◌, ◌≢◌, ◌<◌}
use mathlib.Core.Option.{some}
use lib.ListN.{get_elem?}
use Rattle.bl_ffi_seats.specs.Seats.{seat_number}
use Rattle.bl_ffi_seats.proofs.Closings.{Boxed}
use Rattle.bl_ffi_seats.proofs.closing.has_seat.Given as goal

abbrev pub invariant-loop-seat : goal.invariant-loop-seat
invariant-loop-seat l = (k : ℕ) (b : Boxed) → k < l.seat-index → get_elem? l.seats k ≡ some b → seat_number b.value ≢ l.number
