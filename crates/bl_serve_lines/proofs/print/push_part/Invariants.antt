use Rattle.std.proofs.Common.{◌≡◌, ◌≤◌, ◌++◌, take, length}
use Rattle.std.specs.Prelude.{flat_map}
use Rattle.bl_serve_lines.specs.Text.{row_text}
use Rattle.bl_serve_lines.specs.Scans.{rows_before, shown}
use Rattle.bl_serve_lines.proofs.print.push_part.Given as goal

abbrev pub invariant-loop-row : goal.invariant-loop-row
invariant-loop-row l = record {
  few : l.met ≤ l.row-index;
  met : l.met ≡ length (rows_before l.until (take l.row-index l.list));
  text : l.out.items ≡ l.fn.out.items ++ flat_map row_text (shown l.tells (rows_before l.until (take l.row-index l.list)));
}
