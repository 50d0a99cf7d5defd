use Rattle.std.proofs.Common.{◌≡◌, ◌++◌, length}
use Rattle.bl_ffi_seats.specs.Closed.{values}
use Rattle.bl_ffi.proofs.opening.boxed.Given as goal

abbrev pub invariant-loop-alloc : goal.invariant-loop-alloc
invariant-loop-alloc l = record { so_far : l.fn.seats.items ≡ values l.boxes.items ++ l.seats.items }

abbrev pub decreases-loop-alloc : goal.decreases-loop-alloc
decreases-loop-alloc l = length l.seats.items
