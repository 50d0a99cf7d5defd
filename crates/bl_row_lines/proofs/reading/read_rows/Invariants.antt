use Rattle.std.proofs.Common.{◌≡◌, ◌+◌, ◌++◌, length}
use Rattle.std.specs.Io.KnownBytes.{Consumes}
use Rattle.bl_model.specs.Rows.{HasRisingKeys}
use Rattle.bl_row_lines.specs.RowLines.{rows_text}
use Rattle.bl_row_lines.proofs.reading.read_rows.Given as goal

abbrev pub invariant-loop-number : goal.invariant-loop-number
invariant-loop-number g l = record {
  consumed : Consumes (g.R.Read.remaining l.fn.reader.inner) (g.R.Read.remaining l.reader.inner) (rows_text l.rows.items ++ l.source);
  rising : HasRisingKeys l.rows.items;
  number : l.number ≡ length l.rows.items + 1;
}
