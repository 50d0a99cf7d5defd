-- What a call promises that copies a map which is in use.
use Rattle.std.specs.Prelude.{◌≡◌, ℕ, ◌<◌, List, [], Option, None, Result, Ok, Err, IfOk, IfErr, length}
use Rattle.std.specs.declared.alloc.AllocError.{AllocError}
use Rattle.bl_page.specs.declared.page.Page.{Page}
use Rattle.bl_check.specs.declared.quiet.Quiet.{Quiet}
use Rattle.bl_proc.specs.declared.parts.Direction.TheVariants.{Up}
use Rattle.bl_claims.specs.Trails.{Trail}
use Rattle.bl_index_read.specs.Sinks.{Appends}
use Rattle.bl_load.specs.Loads.{HoldsRows, IsFaultOf}
use Rattle.bl_load.specs.declared.fault.LoadFault.{LoadFault}
use Rattle.bl_load.specs.declared.fault.LoadFault.TheVariants as fault
use Rattle.bl_map_calls.specs.Scans.{Scanned}

-- Where all rows were listed, this is a sound image of so many pages that has exactly these rows, and is so full; or there is no such
-- image. Else there was no memory for the rows.
abbrev pub IsCopyOf : {E : Type 0} → List (ℕ × ℕ) → ℕ → ℕ → Result (Unit {0}) E → Result Quiet LoadFault → Type 0
IsCopyOf rows pages fill (Ok listed) result =
    IfOk result (λ quiet. HoldsRows fill rows quiet.image.pages.items × (length quiet.image.pages.items ≡ pages)) × IfErr result (IsFaultOf rows pages fill)
IsCopyOf rows pages fill (Err e) result = result ≡ Err fault.Memory

-- The pass has scanned the whole map, and this is a copy of the rows that the scan listed.
pub record Copies (first : List (Option Page)) (pages pass fill : ℕ) (result : Result Quiet LoadFault) (old new : Trail) : Type 0 where
  pub rows : List (ℕ × ℕ)
  pub room : ℕ
  pub listed : Result (Unit {0}) AllocError
  pub scanned : Scanned Appends (λ many. room < many) first pages pass Up 0 None listed [] rows old new
  pub copy : IsCopyOf rows pages fill listed result
