-- What reading one line gave. Private functions cite this, and no public clause does.
use Rattle.std.specs.Prelude.{◌≡◌, ℕ, ◌<◌, List, [], ◌++◌, length, Result, Ok, Err}
use Rattle.bl_row_lines.specs.declared.row.Said.{Said}
use Rattle.bl_row_lines.specs.declared.row.Said.TheVariants as said
use Rattle.bl_row_lines.specs.RowLines.{line_text, BeginsBadly}

-- a row was read, or there is none left, or the line is bad
abbrev pub GivesRow : {E : Type 0} → List ℕ → Result Said E → List ℕ → Type 0 → Type 0 → Type 0
GivesRow unread (Ok (said.Row key value)) left at_end failed = unread ≡ line_text (key, value) ++ left
GivesRow unread (Ok said.End) left at_end failed = (unread ≡ []) × (left ≡ []) × at_end
GivesRow unread (Ok said.Bad) left at_end failed = (0 < length unread) × BeginsBadly unread at_end
GivesRow unread (Err e) left at_end failed = failed
