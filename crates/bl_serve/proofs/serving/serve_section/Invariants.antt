use Rattle.std.proofs.Common.{◌≡◌, ◌-◌, ◌^◌, ℕ, List, ◌++◌, length}
use Rattle.std.specs.Prelude.{Option, min, true}
use Rattle.std.specs.Io.KnownBytes.{Consumes, IsAtEnd}
use Rattle.bl_serve_lines.specs.declared.request.Request.{Request}
use Rattle.bl_serve_lines.specs.Served.{after_lines}
use Rattle.bl_journal.specs.Rows.{Leads}
use Rattle.bl_serve_ground.specs.Standing.{map_in}
use Rattle.bl_serve_reading.specs.Reading.{EndsReading}
use Rattle.bl_serve.proofs.Continuing.{HasServed}
use Rattle.bl_serve.proofs.serving.serve_section.Given as goal

-- Lines were answered, and others are read. Behind those that were answered come these bytes.
abbrev pub invariant-loop : goal.invariant-loop
invariant-loop g l = record {
  asked : List (Option Request);
  rest : List ℕ;
  more : List ℕ;
  mid : List ℕ;
  consumed : Consumes (g.R.Read.remaining l.fn.reader.inner) (g.R.Read.remaining l.reader.inner) more;
  served : HasServed l.service.sections l.fn.session.ground l.fn.session.passes.items l.session.ground l.session.passes.items l.fn.session.totals l.session.totals (l.fn.ahead.source ++ more) mid asked l.session.text.items;
  sections : l.ahead.sections ≡ after_lines l.service.sections (length asked);
  reads : EndsReading (after_lines l.service.sections (length asked)) l.ahead.end (min l.chunk (2 ^ 64 - 1 - l.session.totals.requests)) l.ahead.lines rest mid l.ahead.source (IsAtEnd (g.R.Read.remaining l.reader.inner)) (l.reader.failed ≡ true);
  leads : l.service.keeps ≡ true → Leads l.session.changes.came.items l.session.changes.went.items (map_in l.fn.session.ground l.fn.session.passes.items) (map_in l.session.ground l.session.passes.items);
}
