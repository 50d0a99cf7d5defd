-- An image of rows for C.
use Rattle.std.specs.Prelude.{◌≡◌, ◌⊎◌, ◌+◌, ◌*◌, ◌<◌, ℕ, ℤ, pos, List, Option, map, length, take, drop}
use Rattle.bl_page.specs.declared.page.Page.{Page}
use Rattle.bl_image.specs.Images.{IsImage, image_size}
use Rattle.bl_check.specs.Rules.{AreSound}
use Rattle.bl_load.specs.Loads.{HoldsRows, IsFaultOf}
use Rattle.bl_load.specs.declared.fault.LoadFault.{LoadFault}
use Rattle.bl_load.specs.declared.fault.LoadFault.TheVariants as fault
use Rattle.bl_ffi.specs.declared.calls.Row.{Row}

-- a row of C as a key with its value
abbrev pub pair_of : Row → ℕ × ℕ
pair_of row = (row.key, row.value)

abbrev pub pairs_of : List Row → List (ℕ × ℕ)
pairs_of rows = map pair_of rows

-- The first bytes are a sound image of so many pages that has exactly these rows and is so full, and the others are as they were.
pub record IsSaved (rows : List Row) (pages fill : ℕ) (old new : List ℕ) (long : ℕ) : Type 0 where
  pub image : List (Option Page)
  pub count : length image ≡ pages
  pub sound : AreSound image
  pub holds : HoldsRows fill (pairs_of rows) image
  pub spelled : IsImage image (take long new)
  pub fits : long ≡ image_size image
  pub rest : drop long new ≡ drop long old

abbrev pub IsCodeOfLoad : LoadFault → ℤ → Type 0
IsCodeOfLoad fault.Pages code = code ≡ pos 5
IsCodeOfLoad fault.Fill code = code ≡ pos 16
IsCodeOfLoad fault.Levels code = code ≡ pos 16
IsCodeOfLoad (fault.Order place) code = code ≡ pos 15
IsCodeOfLoad fault.Room code = code ≡ pos 3
IsCodeOfLoad other code = code ≡ pos 7

-- The image is written; or there is less room than the longest image of so many pages takes; or there is no image, for the reason that the code
-- tells; or there was no memory.
abbrev pub WritesImage : List Row → ℕ → ℕ → List ℕ → List ℕ → ℕ → ℤ → Type 0
WritesImage rows pages fill old new long code =
    ((code ≡ pos 0) × IsSaved rows pages fill old new long)
    ⊎ ((code ≡ pos 12) × (long ≡ 32 + 256 * pages) × (length old < long) × (new ≡ old))
    ⊎ ((why : LoadFault) × IsCodeOfLoad why code × IsFaultOf (pairs_of rows) pages fill why × (new ≡ old))
    ⊎ ((code ≡ pos 7) × (new ≡ old))
