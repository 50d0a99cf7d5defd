use Rattle.std.proofs.Common.{◌≡◌, true, ap, sym, subst}
use Rattle.std.specs.Prelude.{Err}
use Rattle.std.specs.Io.KnownBytes.{IsAtEnd}
use Rattle.bl_cli_commands.specs.declared.fault.CommandFault.{CommandFault}
use Rattle.bl_cli_commands.specs.Replays.{StopsReplay}
use Rattle.bl_cli_commands.proofs.Replaying.{stops_replaying}
use Rattle.bl_cli_commands.proofs.replay.replay_script.Goals as goal

pub returns-clause-replays : goal.returns-clause-replays
returns-clause-replays g c =
    let read = rw c.in-Ok.is at c.read_script.ensures in
    let broken = c.in-Err-replay.ensures.err in
    let fault = c.in-Err-replay.fault in (
      read.0,
      read.1,
      subst (λ (f : CommandFault). StopsReplay c.args.with_pages f read.0 (IsAtEnd (g.R.Read.remaining c.read_script.new.reader.inner)) (c.read_script.new.reader.failed ≡ true) (c.replay.new.writer.failed ≡ true) (g.W.Write.contents c.args.writer.now.inner) (g.W.Write.contents c.replay.new.writer.inner))
          (sym c.from-in-Err-replay.ensures)
          (stops_replaying c.args.with_pages fault read.0 _ _ _ _ _
          (record { pages = c.in-Ok.script.pages; commands = c.in-Ok.script.commands.items; script = read.2.0; whole = read.2.1; text = broken.0; played = broken.1; written = broken.2 })
          (λ is. c.in-Err-replay.ensures.write (ap Err is))),
    )
