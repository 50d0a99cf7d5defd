-- How a write ends.
use Rattle.std.proofs.Common.{ℕ, ◌≡◌, refl, sym, subst}
use Rattle.bl_model.specs.declared.deciding.KeyWrite.{KeyWrite}
use Rattle.bl_proc_steps.specs.declared.acts.Seen.TheVariants as seen
use Rattle.bl_proc_writes.specs.declared.writing.WriteStage.TheVariants as write
use Rattle.bl_proc.specs.declared.kinds.Proc.{Proc}
use Rattle.bl_proc_writes.specs.declared.writing.WriteReply.{WriteReply}
use Rattle.bl_proc_deterministic.proofs.Writings.{write_goes}
use Rattle.bl_index_events.specs.Runs.{EndsAs}
use Rattle.bl_index_write.specs.Events.{writing}

-- a write that has opened its leaf ends
pub ends_alone : (key : ℕ) (does : KeyWrite) (r : WriteReply) (state : Proc) → state ≡ writing key does (write.Ending r) → EndsAs state (writing key does (write.Over r))
ends_alone key does r state is = subst (λ (z : Proc). EndsAs z (writing key does (write.Over r))) (sym is) (record {
  at_end = refl;
  over = write_goes (record { key = key; write = does; stage = write.Ending r }) seen.Done refl tt;
  ended = (refl, refl, refl);
})
