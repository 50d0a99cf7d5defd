-- What the command `rows` writes for the bytes that it read, and why it ends early.
use Rattle.std.specs.Prelude.{ℕ, List, Option}
use Rattle.std.specs.Io.KnownBytes.{Appends}
use Rattle.bl_page.specs.declared.page.Page.{Page}
use Rattle.bl_image.specs.Images.{IsImage}
use Rattle.bl_check.specs.Rules.{AreSound}
use Rattle.bl_check.specs.Rows.{AreRowsOf}
use Rattle.bl_row_lines.specs.RowLines.{rows_text}
use Rattle.bl_cli_commands.specs.declared.fault.CommandFault.{CommandFault}
use Rattle.bl_cli_commands.specs.declared.fault.CommandFault.TheVariants.{Read, Write, Memory, Script, Unsound, Lost}
use Rattle.bl_cli_commands.specs.Checks.{CannotLoad}

-- The bytes are a sound image, and the lines of its rows were written.
pub record PrintsRows (bytes : List ℕ) (old new : Option (List ℕ)) : Type 0 where
  pub pages : List (Option Page)
  pub image : IsImage pages bytes
  pub sound : AreSound pages
  pub rows : List (ℕ × ℕ)
  pub are_rows : AreRowsOf pages rows
  pub written : Appends old new (rows_text rows)

-- No image was loaded, as `CannotLoad` says; or the writer has failed. Memory may fail in both parts.
abbrev pub CannotPrint : CommandFault → Option ℕ → Option (List ℕ) → Option (List ℕ) → Type 0 → Type 0 → Type 0
CannotPrint Write length old new reader_failed writer_failed = writer_failed
CannotPrint Read length old new reader_failed writer_failed = CannotLoad Read length old new reader_failed
CannotPrint Memory length old new reader_failed writer_failed = Unit {0}
CannotPrint (Unsound rule page) length old new reader_failed writer_failed = CannotLoad (Unsound rule page) length old new reader_failed
-- it reads no script and serves nothing
CannotPrint (Script line) length old new reader_failed writer_failed = ⊥
CannotPrint (Lost number) length old new reader_failed writer_failed = ⊥
