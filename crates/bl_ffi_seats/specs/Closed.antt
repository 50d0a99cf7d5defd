-- An index is closed by its seats.
use Rattle.std.specs.Arc.{arc_value}
use Rattle.std.specs.Prelude.{◌≡◌, ℕ, ◌<◌, ◌≤◌, List, [], Option, All, length, map, vec_capacity, Box}
use Rattle.std.specs.declared.alloc.Global.{Global}
use mathlib.Core.Option.{some}
use lib.ListN.{get_elem?}
use Rattle.bl_page.specs.declared.page.Page.{Page}
use Rattle.bl_store.specs.declared.store.Hand.{Hand}
use Rattle.bl_index_rule.specs.declared.known.PassState.{PassState}
use Rattle.bl_index.specs.declared.index.Index.{Index}
use Rattle.bl_index.specs.Calls.{pages_of, passes_of}
use Rattle.bl_index.specs.Closed.{HasCapacity, ClosesHands}
use Rattle.bl_ffi_seats.specs.declared.seat.Seat.{Seat}
use Rattle.bl_ffi_seats.specs.declared.closing.Prepared.{Prepared}
use Rattle.bl_ffi_seats.specs.declared.closing.CloseFault.{CloseFault}
use Rattle.bl_ffi_seats.specs.declared.closing.CloseFault.TheVariants as fault
use Rattle.bl_ffi_seats.specs.Seats.{seat_number, AreOfOne}

-- the seats in boxes
abbrev pub values : List (Box Seat Global) → List Seat
values boxes = map (λ b. b.value) boxes

abbrev pub hand_of : Seat → Hand PassState
hand_of seat = seat.pass.hand

-- all are at one index
abbrev pub AreAtOne : List Seat → Type 0
AreAtOne seats = All (λ one. All (AreOfOne one) seats) seats

abbrev pub IsAtIndex : Index → Seat → Type 0
IsAtIndex index seat = arc_value seat.index ≡ index

-- one of the seats has that number
abbrev pub HasSeat : List Seat → ℕ → Type 0
HasSeat seats n = (k : ℕ) × (seat : Seat) × (get_elem? seats k ≡ some seat) × (seat_number seat ≡ n)

-- each seat of the index is among them
abbrev pub AreAll : Index → List Seat → Type 0
AreAll index seats = (n : ℕ) → n < passes_of index → HasSeat seats n

-- a seat of the same index is not among them
abbrev pub LacksOne : List Seat → Seat → Type 0
LacksOne seats seat = (n : ℕ) × (n < passes_of (arc_value seat.index)) × ¬ HasSeat seats n

abbrev pub AreComplete : List Seat → Type 0
AreComplete seats = All (λ seat. AreAll (arc_value seat.index) seats) seats

-- The seats are all those of one index, which is closed by their hands.
pub record HaveClosed (seats : List Seat) (pages : List (Option Page)) : Type 0 where
  pub index : Index
  pub at : All (IsAtIndex index) seats
  pub closes : ClosesHands index (map hand_of seats) pages

-- Why nothing was begun: a seat is missing; or all are there, and there was no memory, or somebody else has a share.
abbrev pub IsNotPrepared : List Seat → CloseFault → Type 0
IsNotPrepared seats fault.Missing = All (LacksOne seats) seats
IsNotPrepared seats fault.Shared = AreComplete seats
IsNotPrepared seats fault.Memory = AreComplete seats
IsNotPrepared seats fault.Lost = ⊥

-- Why an index was not closed, and its seats then. Where one is missing, or all are there and there was no memory, or somebody else has a share,
-- they are as they were. They are gone where all were there, and nobody but they had a share when that was looked at.
abbrev pub IsNotClosed : List Seat → List Seat → CloseFault → Type 0
IsNotClosed old new fault.Missing = (new ≡ old) × All (LacksOne old) old
IsNotClosed old new fault.Shared = AreComplete old × (new ≡ old)
IsNotClosed old new fault.Memory = AreComplete old × (new ≡ old)
IsNotClosed old new fault.Lost = AreComplete old × (new ≡ [])

-- a share of their index, which has a seat of each number among them, and room for a close by them
pub record IsFor (seats : List Seat) (prepared : Prepared) : Type 0 where
  pub at : All (IsAtIndex (arc_value prepared.index)) seats
  pub all : AreAll (arc_value prepared.index) seats
  pub empty : prepared.hands.items ≡ []
  pub fits : length seats ≤ vec_capacity prepared.hands
  pub room : HasCapacity (pages_of (arc_value prepared.index)) prepared.room
