use Rattle.std.proofs.Common.{◌≡◌, ◌≤◌, ℕ, List, ◌++◌, take, length}
use Rattle.std.specs.Io.KnownBytes.{Consumes}
use Rattle.bl_serve_lines.specs.Lines.{HasNoLf}
use Rattle.bl_serve_lines.proofs.source.Source.next_line.Given as goal

abbrev pub invariant-loop : goal.invariant-loop
invariant-loop g l = record {
  bytes : List ℕ;
  more : List ℕ;
  read : Consumes (g.R.Read.remaining l.fn.reader.inner) (g.R.Read.remaining l.reader.inner) more;
  cut : HasNoLf bytes;
  whole : l.fn.self ++ more ≡ bytes ++ l.self;
  front : l.line.items ≡ take 70 bytes;
  count : l.counter ≤ length bytes;
}
