use Rattle.std.proofs.Common.{◌≡◌, take}
use Rattle.bl_row_lines.specs.RowLines.{rows_text}
use Rattle.bl_row_lines.proofs.writing.text_of.Given as goal

abbrev pub invariant-loop-row : goal.invariant-loop-row
invariant-loop-row l = l.text.items ≡ rows_text (take l.row-index l.rows)
