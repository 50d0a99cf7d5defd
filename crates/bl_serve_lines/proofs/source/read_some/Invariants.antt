use Rattle.std.proofs.Common.{◌≡◌, ◌<◌, true}
use Rattle.std.specs.Io.KnownBytes.{Keeps}
use Rattle.bl_serve_lines.proofs.source.read_some.Given as goal

abbrev pub invariant-loop : goal.invariant-loop
invariant-loop g l = record {
  kept : Keeps (g.R.Read.remaining l.fn.reader.inner) (g.R.Read.remaining l.reader.inner);
  failed : 0 < l.counter → l.reader.failed ≡ true;
}
