-- What the command `load` makes of the bytes that it read, and why it makes nothing.
use Rattle.std.specs.Prelude.{◌≡◌, ℕ, List, Option}
use Rattle.bl_page.specs.declared.page.Page.{Page}
use Rattle.bl_load.specs.Loads.{HoldsRows, IsFaultOf as IsImageFault}
use Rattle.bl_load.specs.declared.fault.LoadFault.TheVariants as load
use Rattle.bl_row_lines.specs.RowLines.{rows_text, IsFaultOf as IsRowsFault}
use Rattle.bl_row_lines.specs.declared.reading.RowsFault.TheVariants as rows
use Rattle.bl_cli_commands.specs.declared.making.MakeFault.{MakeFault}
use Rattle.bl_cli_commands.specs.declared.making.MakeFault.TheVariants.{Rows, Image}

-- The bytes are the lines of rows, and the pages have exactly these, and are so full.
pub record Makes (fill : ℕ) (bytes : List ℕ) (pages : List (Option Page)) : Type 0 where
  pub rows : List (ℕ × ℕ)
  pub read : bytes ≡ rows_text rows
  pub held : HoldsRows fill rows pages

-- The bytes are lines of rows, of which no such image was made.
pub record LacksImage (fault_of : List (ℕ × ℕ) → Type 0) (bytes : List ℕ) (at_end : Type 0) : Type 0 where
  pub rows : List (ℕ × ℕ)
  pub read : bytes ≡ rows_text rows
  pub whole : at_end
  pub fault : fault_of rows

-- Why there is no image: the bytes are no rows, as the fault says, or of the rows there is no such image.
abbrev pub CannotMake : MakeFault → List ℕ → Type 0 → Type 0 → ℕ → ℕ → Type 0
CannotMake (Rows fault) bytes at_end reader_failed pages fill = IsRowsFault bytes at_end reader_failed fault
CannotMake (Image fault) bytes at_end reader_failed pages fill = LacksImage (λ rows. IsImageFault rows pages fill fault) bytes at_end

-- 3 where reading failed, a line is bad, or the rows have no room; 4 where there was no memory
abbrev pub status_of_rows : MakeFault → ℕ
status_of_rows (Rows (rows.NoRow line)) = 3
status_of_rows (Rows (rows.NotAbove line)) = 3
status_of_rows (Rows rows.Read) = 3
status_of_rows (Rows rows.Memory) = 4
status_of_rows (Image load.Pages) = 3
status_of_rows (Image load.Fill) = 3
status_of_rows (Image (load.Order place)) = 3
status_of_rows (Image load.Room) = 3
status_of_rows (Image load.Levels) = 3
status_of_rows (Image load.Memory) = 4
