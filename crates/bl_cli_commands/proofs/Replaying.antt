-- Why the carrying out of a script ends early.
use Rattle.std.proofs.Common.{◌≡◌, ℕ, Bool, List, Option, refl, inr}
use Rattle.bl_replay.specs.declared.fault.ReplayFault.{ReplayFault}
use Rattle.bl_replay.specs.declared.fault.ReplayFault.TheVariants as replaying
use Rattle.bl_cli_commands.specs.Replays.{BreaksInto, StopsReplay}
use Rattle.bl_cli_commands.specs.Statuses.{fault_of_replay}

pub stops_replaying : (with_pages : Bool) (fault : ReplayFault) (bytes : List ℕ) (at_end reader_failed writer_failed : Type 0) (old new : Option (List ℕ)) → BreaksInto with_pages bytes at_end old new → (fault ≡ replaying.Write → writer_failed)
    → StopsReplay with_pages (fault_of_replay fault) bytes at_end reader_failed writer_failed old new
stops_replaying with_pages replaying.Write bytes at_end reader_failed writer_failed old new into failed = (failed refl, into)
stops_replaying with_pages replaying.Memory bytes at_end reader_failed writer_failed old new into failed = inr into
