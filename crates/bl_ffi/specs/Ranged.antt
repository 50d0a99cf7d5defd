-- The rows of a range for C.
use Rattle.std.specs.Prelude.{◌≡◌, ◌⊎◌, ◌<◌, ◌^◌, ◌-◌, ◌++◌, ℕ, suc, ℤ, pos, if◌then◌else◌, nat_lt, Option, Some, None, List, map, drop, length}
use Rattle.bl_index_range.specs.declared.ranging.RangeFault.{RangeFault}
use Rattle.bl_index_range.specs.declared.ranging.RangeFault.TheVariants as fault
use Rattle.bl_ffi_seats.specs.declared.seat.Seat.{Seat}
use Rattle.bl_ffi_seats.specs.Seats.{KeepsUpkeep, HasRead, HasStopped}
use Rattle.bl_ffi.specs.declared.calls.Row.{Row}
use Rattle.bl_ffi.specs.Told.{row_of}

-- the end of the keys up to that one: none, where it is the greatest
abbrev pub end_behind : ℕ → Option ℕ
end_behind last = if nat_lt last (2 ^ 64 - 1) then Some (suc last) else None

abbrev pub IsCodeOfStop : RangeFault → ℤ → Type 0
IsCodeOfStop fault.Memory code = code ≡ pos 7
IsCodeOfStop fault.OutOfTurns code = code ≡ pos 4
IsCodeOfStop fault.Unsteady code = code ≡ pos 18

-- They are the first ones of the array, whose others are as they were.
abbrev pub AreFirstOf : List (ℕ × ℕ) → List Row → List Row → Type 0
AreFirstOf pairs old new = new ≡ map row_of pairs ++ drop (length pairs) old

-- There are so many rows, and they are in the array; or it has too little room, and is as it was.
abbrev pub IsWritten : List (ℕ × ℕ) → List Row → List Row → ℕ → ℤ → Type 0
IsWritten pairs old new count code = (count ≡ length pairs)
    × (((code ≡ pos 0) × AreFirstOf pairs old new) ⊎ ((code ≡ pos 10) × (length old < length pairs) × (new ≡ old)))

-- The seat has read the range, and its rows are written; or the range has stopped, for the reason that the code tells: then nothing is written.
-- It loses no upkeep.
abbrev pub RangesRows : ℕ → Option ℕ → ℕ → List Row → List Row → ℕ → ℕ → ℤ → Seat → Seat → Type 0
RangesRows from to rounds rows rows' count count' code old new = KeepsUpkeep old new
    × (((pairs : List (ℕ × ℕ)) × HasRead from to pairs old new × IsWritten pairs rows rows' count' code)
    ⊎ ((why : RangeFault) × IsCodeOfStop why code × HasStopped from to rounds why old new × (rows' ≡ rows) × (count' ≡ count)))
