-- What a call of a range tells C.
use Rattle.std.proofs.Common.{ℕ, ◌≡◌, ◌⊎◌, ◌^◌, Option, List, inl, inr, refl, sym, ap, ◌∙◌}
use Rattle.std.specs.Prelude.{ℤ, pos}
use mir.Val.{to_z, of_z}
use mir.Syntax.{w32}
use Rattle.bl_index_range.specs.declared.ranging.RangeFault.{RangeFault}
use Rattle.bl_index_range.specs.declared.ranging.RangeFault.TheVariants as fault
use Rattle.bl_ffi.specs.declared.calls.Row.{Row}
use Rattle.bl_ffi.specs.Ranged.{IsCodeOfStop, IsWritten}

-- A code is as it was after it was told.
same_code : (code n : ℤ) → code ≡ n → to_z w32 (of_z w32 n) ≡ n → to_z w32 (of_z w32 code) ≡ n
same_code code n is fits = ap (λ (z : ℤ). to_z w32 (of_z w32 z)) is ∙ fits

pub stop_kept : (why : RangeFault) (code : ℤ) → IsCodeOfStop why code → IsCodeOfStop why (to_z w32 (of_z w32 code))
stop_kept fault.Memory code is = same_code code (pos 7) is refl
stop_kept fault.OutOfTurns code is = same_code code (pos 4) is refl
stop_kept fault.Unsteady code is = same_code code (pos 18) is refl

pub written_kept : (pairs : List (ℕ × ℕ)) (old new : List Row) (count : ℕ) (code : ℤ) → IsWritten pairs old new count code → IsWritten pairs old new count (to_z w32 (of_z w32 code))
written_kept pairs old new count code (many, inl (is, rows)) = (many, inl (same_code code (pos 0) is refl, rows))
written_kept pairs old new count code (many, inr (is, few, rows)) = (many, inr (same_code code (pos 10) is refl, few, rows))
