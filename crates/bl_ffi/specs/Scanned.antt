-- The rows of a scan for C.
use Rattle.std.specs.Prelude.{◌≡◌, ℕ, zero, suc, ℤ, pos, true, false, Option, Some, None, Result, Ok, Err, List, length}
use Rattle.bl_proc.specs.declared.parts.Direction.{Direction}
use Rattle.bl_proc.specs.declared.parts.Direction.TheVariants.{Up, Down}
use Rattle.bl_index.specs.declared.scanning.ScanFault.{ScanFault}
use Rattle.bl_index.specs.declared.scanning.ScanFault.TheVariants.{Memory, OutOfTurns}
use Rattle.bl_ffi_seats.specs.declared.seat.Seat.{Seat}
use Rattle.bl_ffi_seats.specs.Seats.{KeepsUpkeep, HasListed}
use Rattle.bl_ffi.specs.declared.calls.Row.{Row}
use Rattle.bl_ffi.specs.declared.calls.Part.{Part}
use Rattle.bl_ffi.specs.Ranged.{end_behind, AreFirstOf}

-- the first key in that direction behind the last one, if there is one
abbrev pub end_toward : Direction → ℕ → Option ℕ
end_toward Up last = end_behind last
end_toward Down zero = None
end_toward Down (suc below) = Some below

-- The code, whether there may be more rows, and the key from which the next scan goes on.
abbrev pub IsTold : Result (Option ℕ) ScanFault → Part → ℤ → Type 0
IsTold (Ok (Some next)) part code = (code ≡ pos 0) × (part.more ≡ true) × (part.next ≡ next)
IsTold (Ok None) part code = (code ≡ pos 0) × (part.more ≡ false)
IsTold (Err (OutOfTurns from)) part code = (code ≡ pos 4) × (part.more ≡ true) × (part.next ≡ from)
IsTold (Err (Memory from)) part code = (code ≡ pos 7) × (part.more ≡ true) × (part.next ≡ from)

-- The seat has scanned up or down to that key, that included, and the rows are written: as many as there is room for, or those before the
-- scan stopped, for the reason that the code tells. It loses no upkeep.
abbrev pub ScansRows : Direction → ℕ → ℕ → List Row → List Row → Part → ℤ → Seat → Seat → Type 0
ScansRows direction from last rows rows' part code old new = KeepsUpkeep old new × ((pairs : List (ℕ × ℕ)) × (room : ℕ) × (result : Result (Option ℕ) ScanFault)
    × HasListed direction from (end_toward direction last) (length rows) room result pairs old new
    × AreFirstOf pairs rows rows' × (part.count ≡ length pairs) × IsTold result part code)
