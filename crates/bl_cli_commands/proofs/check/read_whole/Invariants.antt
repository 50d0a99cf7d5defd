use Rattle.std.specs.Io.KnownBytes.{Consumes}
use Rattle.bl_cli_commands.proofs.check.read_whole.Given as goal

abbrev pub invariant-loop : goal.invariant-loop
invariant-loop g l = Consumes (g.R.Read.remaining l.fn.reader.inner) (g.R.Read.remaining l.reader.inner) l.bytes.items
