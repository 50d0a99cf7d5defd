use Rattle.std.proofs.Common.{◌≡◌, ℕ, List, [], ◌++◌, length}
use Rattle.std.specs.Io.KnownBytes.{Consumes}
use Rattle.bl_serve_reading.specs.Reading.{AskNoEnd, ReadsLines}
use Rattle.bl_serve_reading.proofs.section_reader.read_section.Given as goal

abbrev pub invariant-loop-taken : goal.invariant-loop-taken
invariant-loop-taken g l = record {
  more : List ℕ;
  consumed : Consumes (g.R.Read.remaining l.fn.reader.inner) (g.R.Read.remaining l.reader.inner) more;
  reads : ReadsLines (l.fn.source ++ more) l.source l.lines [];
  no_end : AskNoEnd l.sections l.lines;
  number : length l.lines ≡ l._taken;
}
