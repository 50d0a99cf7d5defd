use Rattle.std.proofs.Common.{◌≡◌, ℕ, ◌⊎◌, ◌+◌, ◌≤◌, List, ◌++◌, length, true}
use Rattle.std.specs.Io.KnownBytes.{Appends}
use Rattle.bl_model.proofs.writing.write_text.Given as goal

abbrev pub invariant-loop : goal.invariant-loop
invariant-loop g l = record {
  out : List ℕ;
  wrote : Appends (g.W.Write.contents l.fn.writer.inner) (g.W.Write.contents l.writer.inner) out;
  whole : l.text ≡ out ++ l.rest;
  turns : (l.counter + length l.rest ≤ length l.text) ⊎ (l.writer.failed ≡ true);
}
