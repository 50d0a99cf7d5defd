use Rattle.std.proofs.Common.{◌≡◌, ◌≤◌, ℕ, List, length}
use Rattle.bl_replay.specs.Plays.{PrintsSettling}
use Rattle.bl_replay.specs.Emits.{Emits}
use Rattle.bl_replay.proofs.commands.play_settle.Given as goal

abbrev pub invariant-loop : goal.invariant-loop
invariant-loop g l = record {
  text : List ℕ;
  printed : PrintsSettling l.with_pages l.fn.world l.counter text l.world;
  emitted : Emits (g.W.Write.contents l.fn.writer.inner) (g.W.Write.contents l.writer.inner) l.fn.pending.items l.pending.items text;
  count : length l.world.processes ≡ length l.fn.world.processes;
  size : length l.world.pages ≡ length l.fn.world.pages;
  few : l.counter ≤ l.most;
}
