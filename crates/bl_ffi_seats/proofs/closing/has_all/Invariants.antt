use Rattle.std.proofs.Common.{ℕ, ◌<◌}
use Rattle.bl_ffi_seats.specs.Closed.{values, HasSeat}
use Rattle.bl_ffi_seats.proofs.closing.has_all.Given as goal

abbrev pub invariant-loop-number : goal.invariant-loop-number
invariant-loop-number l = (n : ℕ) → n < l.number → HasSeat (values l.seats) n
