-- Rows as lines, and the first line that is bad.
use Rattle.std.specs.Prelude.{◌≡◌, ℕ, ◌+◌, ◌-◌, ◌^◌, ◌<◌, ◌≤◌, List, [], ◌∷◌, ◌++◌, length, flat_map, codes, decimal, Option, Some, None}
use Rattle.bl_model.specs.Rows.{key_at, HasRisingKeys}
use Rattle.bl_serve_lines.specs.Lines.{HasNoLf}
use Rattle.bl_row_lines.specs.declared.reading.RowsFault.{RowsFault}
use Rattle.bl_row_lines.specs.declared.reading.RowsFault.TheVariants as fault
use Rattle.bl_row_lines.specs.declared.writing.PrintFault.{PrintFault}
use Rattle.bl_row_lines.specs.declared.writing.PrintFault.TheVariants as print

-- a row: its key, a space, its value
abbrev pub row_text : ℕ × ℕ → List ℕ
row_text row = decimal row.0 ++ codes " " ++ decimal row.1

-- its line, which ends with one LF
abbrev pub line_text : ℕ × ℕ → List ℕ
line_text row = row_text row ++ 10 ∷ []

-- the lines of rows
abbrev pub rows_text : List (ℕ × ℕ) → List ℕ
rows_text rows = flat_map line_text rows

-- numbers have 64 bits
abbrev pub IsRow : List ℕ → Type 0
IsRow line = (key : ℕ) × (value : ℕ) × (key < 2 ^ 64) × (value < 2 ^ 64) × (line ≡ row_text (key, value))

-- the line spells this row, or none
abbrev pub IsRowOrNone : List ℕ → Option (ℕ × ℕ) → Type 0
IsRowOrNone line (Some row) = line ≡ row_text row
IsRowOrNone line None = ¬ IsRow line

-- the key is above those of rows whose keys rise
abbrev pub IsAbove : ℕ → List (ℕ × ℕ) → Type 0
IsAbove key rows = 0 < length rows → key_at rows (length rows - 1) < key

-- What is left begins with no row: with more than 69 bytes without an LF; or there is no LF in it, and nothing behind it; or its
-- first line spells no row.
pub data BeginsBadly (left : List ℕ) (at_end : Type 0) : Type 0 where
  Long : (line rest : List ℕ) → HasNoLf line → 69 < length line → left ≡ line ++ rest → BeginsBadly left at_end
  Cut : HasNoLf left → at_end → BeginsBadly left at_end
  NoSense : (line rest : List ℕ) → HasNoLf line → left ≡ line ++ 10 ∷ rest → ¬ IsRow line → BeginsBadly left at_end

-- what is left begins with a row whose key is not above those of the rows before it
abbrev pub BeginsBelow : List (ℕ × ℕ) → List ℕ → Type 0
BeginsBelow rows left = (row : ℕ × ℕ) × (rest : List ℕ) × (left ≡ line_text row ++ rest) × (0 < length rows) × (row.0 ≤ key_at rows (length rows - 1))

-- The bytes begin with lines of rows whose keys rise, and then comes, in that line, something else.
pub record StopsAt (bytes : List ℕ) (number : ℕ) (Bad : List (ℕ × ℕ) → List ℕ → Type 0) : Type 0 where
  pub rows : List (ℕ × ℕ)
  pub left : List ℕ
  pub begins : bytes ≡ rows_text rows ++ left
  pub rising : HasRisingKeys rows
  pub counted : number ≡ length rows + 1
  pub bad : Bad rows left

-- Why bytes gave no rows: that line is the first that is bad, or the reader has failed. Memory says nothing of them.
abbrev pub IsFaultOf : List ℕ → Type 0 → Type 0 → RowsFault → Type 0
IsFaultOf bytes at_end reader_failed (fault.NoRow number) = StopsAt bytes number (λ rows left. (0 < length left) × BeginsBadly left at_end)
IsFaultOf bytes at_end reader_failed (fault.NotAbove number) = StopsAt bytes number BeginsBelow
IsFaultOf bytes at_end reader_failed fault.Read = reader_failed
IsFaultOf bytes at_end reader_failed fault.Memory = Unit {0}

-- a failed write comes only from a writer that has failed
abbrev pub IsPrintFault : Type 0 → PrintFault → Type 0
IsPrintFault writer_failed print.Write = writer_failed
IsPrintFault writer_failed print.Memory = Unit {0}
