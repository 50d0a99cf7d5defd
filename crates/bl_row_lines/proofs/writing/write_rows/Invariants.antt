use Rattle.std.proofs.Common.{◌≡◌, ℕ, List, ◌++◌, length}
use Rattle.std.specs.Io.KnownBytes.{Appends}
use Rattle.bl_row_lines.specs.RowLines.{rows_text}
use Rattle.bl_row_lines.proofs.writing.write_rows.Given as goal

abbrev pub invariant-pieces : goal.invariant-pieces
invariant-pieces g l = record {
  done : List (ℕ × ℕ);
  split : l.rows ≡ done ++ l.rest;
  written : Appends (g.W.Write.contents l.fn.writer.inner) (g.W.Write.contents l.writer.inner) (rows_text done);
}

abbrev pub decreases-pieces : goal.decreases-pieces
decreases-pieces g l = length l.rest
