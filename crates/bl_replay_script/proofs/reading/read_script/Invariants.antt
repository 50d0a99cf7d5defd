use Rattle.std.proofs.Common.{◌≡◌, ◌≤◌, ℕ, ◌+◌, List, ◌++◌, length}
use Rattle.std.specs.Io.KnownBytes.{Consumes}
use Rattle.bl_replay_script.specs.Commands.{started_by}
use Rattle.bl_replay_script.specs.Scripts.{IsScript}
use Rattle.bl_replay_script.proofs.reading.read_script.Given as goal

abbrev pub invariant-loop-number : goal.invariant-loop-number
invariant-loop-number g l = record {
  good : List ℕ;
  consumed : Consumes (g.R.Read.remaining l.fn.reader.inner) (g.R.Read.remaining l.reader.inner) (good ++ l.source);
  script : IsScript l.kinds l.pages l.commands.items good;
  started : l.started ≡ started_by l.commands.items;
  few : l.started + 2 ≤ l.number;
  number : l.number ≡ length l.commands.items + 2;
}
