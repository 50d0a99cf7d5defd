-- A process that is at its page goes on as it does there.
use Rattle.std.specs.Prelude.{ℕ}
use Rattle.bl_model.specs.declared.deciding.KeyWrite.{KeyWrite}
use Rattle.bl_page.specs.declared.page.Page.{Page}
use Rattle.bl_proc_steps.specs.declared.acts.Seen.{Seen}
use Rattle.bl_proc_steps.specs.declared.approach.Approach.{Approach}
use Rattle.bl_proc_steps.specs.declared.approach.Approached.TheVariants as came
use Rattle.bl_proc_writes.specs.declared.writing.WriteStage.{WriteStage}
use Rattle.bl_proc_writes.specs.declared.writing.WriteStage.TheVariants.{New, Coming, Keeping, Editing, Ending, Over}
use Rattle.bl_proc_steps.specs.Approaches.{Approaches}
use Rattle.bl_proc_writes.specs.Writes.{WriteArrives, WriteGoes}

pub write_arrives : (key : ℕ) (write : KeyWrite) (a : Approach) (what : Seen) (x : ℕ) (c : Page) (new : WriteStage) → Approaches 0 key a what (came.Here x c) → WriteArrives key write x c new → WriteGoes key write (Coming a) what new
write_arrives key write a what x c New way at = absurd at
write_arrives key write a what x c (Coming b) way at = absurd at
write_arrives key write a what x c (Keeping y there) way at = (x, c, way, at)
write_arrives key write a what x c (Editing noted edit) way at = (x, c, way, at)
write_arrives key write a what x c (Ending r) way at = absurd at
write_arrives key write a what x c (Over r) way at = absurd at
