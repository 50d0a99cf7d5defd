-- What calls of several seats of one map tell C.
use Rattle.std.specs.Arc.{arc_value}
use Rattle.std.specs.Prelude.{◌≡◌, ◌≢◌, ◌⊎◌, ◌+◌, ◌*◌, ◌<◌, ℕ, ℤ, pos, List, Option, None, Some, MatchOption, All, length, take, drop}
use denote.RawPtr.{Ptr}
use mathlib.Core.Option.{some}
use lib.ListN.{get_elem?}
use Rattle.bl_page.specs.declared.page.Page.{Page}
use Rattle.bl_image.specs.Images.{IsImage, image_size}
use Rattle.bl_index.specs.Calls.{pages_of}
use Rattle.bl_ffi_seats.specs.declared.closing.CloseFault.{CloseFault}
use Rattle.bl_ffi_seats.specs.declared.closing.CloseFault.TheVariants as fault
use Rattle.bl_ffi_seats.specs.declared.seat.Seat.{Seat}
use Rattle.bl_ffi_seats.specs.Seats.{IsSameSeat, KeepsUpkeep, AreOfOne, HaveMet}
use Rattle.bl_ffi_seats.specs.Closed.{HaveClosed, IsNotClosed}
use Rattle.bl_ffi.specs.declared.seat.SeatOfC.{SeatOfC}
use Rattle.bl_ffi.specs.Places.{opened, closed, placed}

-- two places that are open are of one map
abbrev pub AreOfOneMap : Option Seat → Option Seat → Type 0
AreOfOneMap one two = (s t : Seat) → one ≡ Some s → two ≡ Some t → AreOfOne s t

-- all that are open are of one map
abbrev pub AreAtOneMap : List (Option Seat) → Type 0
AreAtOneMap places = (i j : ℕ) (s t : Seat) → get_elem? places i ≡ some (Some s) → get_elem? places j ≡ some (Some t) → AreOfOne s t

-- Two open places have the same seats then, which have met, and lose no upkeep.
pub record ComeTogether (one two one' two' : Option Seat) : Type 0 where
  pub s : Seat
  pub t : Seat
  pub s' : Seat
  pub t' : Seat
  pub were : (one ≡ Some s) × (two ≡ Some t)
  pub are : (one' ≡ Some s') × (two' ≡ Some t')
  pub same : IsSameSeat s s' × IsSameSeat t t'
  pub keeps : KeepsUpkeep s s' × KeepsUpkeep t t'
  pub met : HaveMet s t s' t'

-- one of them is closed
abbrev pub IsOneClosed : Option Seat → Option Seat → Type 0
IsOneClosed one two = (one ≡ None) ⊎ (two ≡ None)

-- One is closed, and nothing was done; or both come together.
abbrev pub Meets : Option Seat → Option Seat → Option Seat → Option Seat → ℤ → Type 0
Meets one two one' two' code = ((code ≡ pos 9) × IsOneClosed one two × (one' ≡ one) × (two' ≡ two)) ⊎ ((code ≡ pos 0) × ComeTogether one two one' two')

-- The seat is as it was, and a closed one leaves the place as it was. Of what an open one shows no clause says more, since no clause of `Arc`
-- says where its value lies.
abbrev pub Shows : SeatOfC → SeatOfC → Ptr → Ptr → ℤ → Type 0
Shows old new place place' code = MatchOption old.seat ((code ≡ pos 9) × (new.seat ≡ None) × (place' ≡ place)) (λ s. (code ≡ pos 0) × (new.seat ≡ Some s))

abbrev pub IsCodeOfFault : CloseFault → ℤ → Type 0
IsCodeOfFault fault.Missing code = code ≡ pos 11
IsCodeOfFault fault.Shared code = code ≡ pos 11
IsCodeOfFault fault.Memory code = code ≡ pos 7
IsCodeOfFault fault.Lost code = code ≡ pos 14

-- The map of these seats is closed, and so are their places. The first bytes are its image, and the others are as they were.
pub record IsClosedTo (seats : List Seat) (places : List (Option Seat)) (old new : List ℕ) (long : ℕ) : Type 0 where
  pub pages : List (Option Page)
  pub have_closed : HaveClosed seats pages
  pub are_closed : places ≡ closed (length seats)
  pub image : IsImage pages (take long new)
  pub fits : long ≡ image_size pages
  pub rest : drop long new ≡ drop long old

-- the longest image of so many pages has that length, which is more than there is room for
abbrev pub IsTooLong : List Seat → List ℕ → ℕ → Type 0
IsTooLong seats bytes long = All (λ s. long ≡ 32 + 256 * pages_of (arc_value s.index)) seats × (length bytes < long)

-- What became of these seats, which were those of all places.
abbrev pub ClosesSeats : List Seat → List (Option Seat) → List ℕ → List ℕ → ℕ → ℤ → Type 0
ClosesSeats seats places old new long code =
    ((code ≡ pos 0) × IsClosedTo seats places old new long)
    ⊎ ((code ≡ pos 12) × IsTooLong seats old long × (places ≡ opened seats) × (new ≡ old))
    ⊎ ((why : CloseFault) × (back : List Seat) × IsCodeOfFault why code × IsNotClosed seats back why × (places ≡ placed back (length seats)) × (new ≡ old))

-- There was no memory, or one of the places is closed, and nothing was done; or all are open, and their seats close the map, or are back. With any
-- code but 0 and 14 they are all open still, as they were.
abbrev pub ClosesImage : List (Option Seat) → List (Option Seat) → List ℕ → List ℕ → ℕ → ℤ → Type 0
ClosesImage places places' old new long code =
    ((code ≡ pos 7) × (places' ≡ places) × (new ≡ old))
    ⊎ ((code ≡ pos 9) × ((k : ℕ) × (get_elem? places k ≡ some None)) × (places' ≡ places) × (new ≡ old))
    ⊎ ((seats : List Seat) × (places ≡ opened seats) × ClosesSeats seats places' old new long code)
