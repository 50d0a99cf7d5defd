-- Places of C, and the seats in them.
use Rattle.std.specs.Prelude.{◌≡◌, ◌⊎◌, ℕ, List, Option, None, Some, ◌++◌, length, map, take, drop, replicate}
use mathlib.Core.Option.{some}
use lib.ListN.{get_elem?}
use Rattle.bl_ffi_seats.specs.declared.seat.Seat.{Seat}
use Rattle.bl_ffi.specs.declared.seat.SeatOfC.{SeatOfC}

-- what each place has: a seat, or none
abbrev pub seats_in : List SeatOfC → List (Option Seat)
seats_in places = map (λ place. place.seat) places

-- places that have these seats
abbrev pub opened : List Seat → List (Option Seat)
opened seats = map (λ seat. Some seat) seats

-- so many closed places
abbrev pub closed : ℕ → List (Option Seat)
closed n = replicate n None

-- so many places, the first of which have these seats
abbrev pub placed : List Seat → ℕ → List (Option Seat)
placed seats n = opened seats ++ drop (length seats) (closed n)

-- it has a seat
abbrev pub IsOpen : Option Seat → Type 0
IsOpen place = (seat : Seat) × (place ≡ Some seat)

-- one of them has a seat
abbrev pub HasOpenSeat : List (Option Seat) → Type 0
HasOpenSeat places = (number : ℕ) × (seat : Seat) × (get_elem? places number ≡ some (Some seat))

-- The seats of the first places were taken out, up to the end or to a closed place.
pub record AreTaken (old new : List (Option Seat)) (seats : List Seat) : Type 0 where
  pub taken : opened seats ≡ take (length seats) old
  pub left : new ≡ closed (length seats) ++ drop (length seats) old
  pub stops : (length seats ≡ length old) ⊎ (get_elem? old (length seats) ≡ some None)
