use Rattle.std.proofs.Common.{◌≡◌, ◌+◌, ℕ, List, length, take}
use Rattle.bl_replay_script.specs.Commands.{started_by}
use Rattle.bl_replay.specs.Plays.{Plays}
use Rattle.bl_replay.specs.Emits.{Emits}
use Rattle.bl_replay.proofs.playing.play_all.Given as goal

abbrev pub invariant-loop-command : goal.invariant-loop-command
invariant-loop-command g l = record {
  text : List ℕ;
  played : Plays l.with_pages l.fn.world (take l.command-index l.commands) text l.world;
  emitted : Emits (g.W.Write.contents l.fn.writer.inner) (g.W.Write.contents l.writer.inner) l.fn.pending.items l.pending.items text;
  count : length l.world.processes ≡ length l.fn.world.processes + started_by (take l.command-index l.commands);
  size : length l.world.pages ≡ length l.fn.world.pages;
}
