-- What a write of one key wants, and what follows.
use Rattle.std.proofs.Common.{ℕ, ◌≡◌, ◌≢◌, Some, None, refl}
use Rattle.bl_model.specs.declared.deciding.KeyWrite.{KeyWrite}
use Rattle.bl_model.specs.declared.deciding.Effect.{Effect}
use Rattle.bl_model.specs.declared.deciding.Effect.TheVariants.{Keep, Enter, Remove, Replace}
use Rattle.bl_model.specs.Writes.{write_op, effect_of}
use Rattle.bl_page.specs.declared.page.Page.{Page}
use Rattle.bl_proc_steps.specs.declared.acts.Action.TheVariants as act
use Rattle.bl_proc_steps.specs.declared.acts.Seen.{Seen}
use Rattle.bl_proc_steps.specs.declared.edit.Edit.{Edit}
use Rattle.bl_proc_steps.specs.declared.edit.Edit.TheVariants as edit
use Rattle.bl_proc_writes.specs.declared.writing.Write.{Write}
use Rattle.bl_proc_writes.specs.declared.writing.WriteStage.{WriteStage}
use Rattle.bl_proc_writes.specs.declared.writing.WriteStage.TheVariants as write
use Rattle.bl_proc.specs.declared.kinds.Proc.TheVariants as proc
use Rattle.bl_proc_writes.specs.Writes.{write_next_in, write_needs_in, write_answer_in, Performs}
use Rattle.bl_proc.specs.Processes.{next_of, Takes}
use Rattle.bl_proc_deterministic.specs.Frames.{edit_frames, write_frames, Wants, Leaves, Follows}
use Rattle.bl_proc_deterministic.specs.Retirements.{RetiresAfter}
use Rattle.bl_proc_deterministic.proofs.Following.{approach_wants, edit_wants, edit_leaves, edit_over, approach_leaves, not_begin_way, not_begin, came_frames}
use Rattle.bl_proc_deterministic.proofs.Retirements.{write_none}
use Rattle.bl_proc_deterministic.proofs.WayCases.{edit_case}
use Rattle.bl_proc_deterministic.proofs.KindCases.{WriteCase, write_case}

pub write_wants : (p : Write) → Wants (write_next_in p.stage) (write_needs_in p.stage) (write_frames p.stage)
write_wants p = wants p.stage
  where
    wants : (a : WriteStage) → Wants (write_next_in a) (write_needs_in a) (write_frames a)
    wants write.New = refl
    wants (write.Coming a) = approach_wants a None
    wants (write.Keeping x there) = refl
    wants (write.Editing noted c) = edit_wants c
    wants (write.Ending r) = refl
    wants (write.Over r) = refl

performs_frames : (effect : Effect) (x key : ℕ) (c : Page) (d : Edit) → Performs effect x c key d → edit_frames d ≡ 0
performs_frames Keep x key c d t = absurd t
performs_frames (Enter value) x key c d t = came_frames x key value c d t
performs_frames Remove x key c (edit.Putting y page) t = refl
performs_frames Remove x key c d t = absurd t
performs_frames (Replace value) x key c (edit.Putting y page) t = refl
performs_frames (Replace value) x key c d t = absurd t

pub write_leaves : {key : ℕ} {does : KeyWrite} {a b : WriteStage} {what : Seen} → WriteCase key does a what b → Leaves (write_next_in a) (write_needs_in a) what (write_frames a) (write_frames b)
write_leaves (WriteCase.Came a what b t) = approach_leaves a what
write_leaves {key = key} {does = does} (WriteCase.Changed x c noted d l t) = performs_frames (effect_of does noted.there) x key c d t.1
write_leaves (WriteCase.Edited noted c what same d t) = edit_leaves (edit_case c what _ t.1)
write_leaves (WriteCase.Finished noted c what r t) = edit_over (edit_case c what _ t.1)
write_leaves other = refl

pub write_begun : {key : ℕ} {does : KeyWrite} {a b : WriteStage} {what : Seen} → WriteCase key does a what b → write_next_in b ≢ act.Begin
write_begun (WriteCase.Began a t) = not_begin_way a
write_begun (WriteCase.Came a what b t) = not_begin_way b
write_begun (WriteCase.Changed x c noted d l t) = not_begin d
write_begun (WriteCase.Edited noted c what same d t) = not_begin d
write_begun other = λ z. cc

write_running : {key : ℕ} {does : KeyWrite} {a b : WriteStage} {what : Seen} (same : KeyWrite) → WriteCase key does a what b → write_next_in a ≢ act.End → write_answer_in same b ≡ None
write_running same (WriteCase.Ended r last t) ne = absurd (ne refl)
write_running same other ne = refl

pub write_follows : (p q : Write) (what : Seen) → Takes (proc.Write p) what (proc.Write q) → Follows (proc.Write p) what (proc.Write q)
write_follows p q what t = (let is = write_case p.key p.write p.stage what q.stage t.2 in record {
  frames = write_leaves is;
  begun = write_begun is;
  op = λ i. Some (write_op (t.0 i) (t.1 i));
  work = refl;
  running = λ ne. write_running q.write is ne;
})

pub write_retires : (p q : Write) (what : Seen) → Takes (proc.Write p) what (proc.Write q) → RetiresAfter (next_of (proc.Write p)) what (next_of (proc.Write q))
write_retires p q what t = write_none (next_of (proc.Write p)) what q.stage
