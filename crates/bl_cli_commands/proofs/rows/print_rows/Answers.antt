use Rattle.std.proofs.Common.{ℕ, List, subst}
use Rattle.std.specs.Io.KnownBytes.{Appends}
use Rattle.bl_check.proofs.Rising.{settled}
use Rattle.bl_row_lines.specs.RowLines.{rows_text}
use Rattle.bl_cli_commands.proofs.rows.print_rows.Goals as goal

pub returns-in-Ok-clause-ok : goal.returns-in-Ok-clause-ok
returns-in-Ok-clause-ok g c = let e = c.in_ok-quiet.ensures.ok in let quiet = c.in_ok-quiet.quiet in (
  e.0,
  e.1,
  e.2,
  record {
    pages = quiet.image.pages.items;
    image = e.3;
    sound = settled quiet.image.pages.items quiet.sound;
    rows = c.in_ok-rows.rows.items;
    are_rows = c.in_ok-rows.ensures;
    written = subst (λ (r : List (ℕ × ℕ)). Appends (g.W.Write.contents c.args.writer.now.inner) (g.W.Write.contents c.write_rows.new.writer.inner) (rows_text r)) c.as_slice.ensures.value c.in-Ok.ensures.ok;
  },
)
