-- What the command `replay` prints for the script that it read, and why it ends early.
use Rattle.std.specs.Prelude.{◌≡◌, ◌⊎◌, ℕ, Bool, List, Option}
use Rattle.std.specs.Io.KnownBytes.{Appends}
use Rattle.bl_model.specs.Stream.{StartsOut}
use Rattle.bl_replay_script.specs.declared.command.Command.{Command}
use Rattle.bl_replay_script.specs.Scripts.{IsScript, IsBadAt}
use Rattle.bl_replay.specs.Plays.{all_kinds, PlaysOut, PlaysInto}
use Rattle.bl_cli_commands.specs.declared.fault.CommandFault.{CommandFault}
use Rattle.bl_cli_commands.specs.declared.fault.CommandFault.TheVariants.{Read, Write, Memory, Script, Unsound, Lost}

-- All bytes are a script, and its text was written, with lines of pages where these are wanted.
pub record Replays (with_pages : Bool) (bytes : List ℕ) (at_end : Type 0) (old new : Option (List ℕ)) : Type 0 where
  pub pages : ℕ
  pub commands : List Command
  pub script : IsScript all_kinds pages commands bytes
  pub whole : at_end
  pub text : List ℕ
  pub played : PlaysOut with_pages pages commands text
  pub written : Appends old new text

-- All bytes are a script, and a beginning of its text was written.
pub record BreaksInto (with_pages : Bool) (bytes : List ℕ) (at_end : Type 0) (old new : Option (List ℕ)) : Type 0 where
  pub pages : ℕ
  pub commands : List Command
  pub script : IsScript all_kinds pages commands bytes
  pub whole : at_end
  pub text : List ℕ
  pub played : PlaysInto with_pages pages commands text
  pub written : StartsOut old new text

-- Why a replay ends early. Before the script has been read whole, nothing is written; behind that, a beginning of its text.
-- Memory may fail in both parts.
abbrev pub StopsReplay : Bool → CommandFault → List ℕ → Type 0 → Type 0 → Type 0 → Option (List ℕ) → Option (List ℕ) → Type 0
StopsReplay with_pages Read bytes at_end reader_failed writer_failed old new = reader_failed × (new ≡ old)
StopsReplay with_pages Write bytes at_end reader_failed writer_failed old new = writer_failed × BreaksInto with_pages bytes at_end old new
StopsReplay with_pages Memory bytes at_end reader_failed writer_failed old new = (new ≡ old) ⊎ BreaksInto with_pages bytes at_end old new
StopsReplay with_pages (Script line) bytes at_end reader_failed writer_failed old new = IsBadAt all_kinds bytes at_end line × (new ≡ old)
-- a replay loads no image and serves nothing
StopsReplay with_pages (Unsound rule page) bytes at_end reader_failed writer_failed old new = ⊥
StopsReplay with_pages (Lost number) bytes at_end reader_failed writer_failed old new = ⊥
