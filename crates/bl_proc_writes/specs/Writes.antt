-- A write of one key, by its state.
use Rattle.std.specs.Prelude.{◌≡◌, ℕ, Option, None, Some}
use Rattle.bl_model.specs.declared.operation.Reply.TheVariants as reply
use Rattle.bl_model.specs.declared.deciding.KeyWrite.{KeyWrite}
use Rattle.bl_model.specs.declared.deciding.Effect.{Effect}
use Rattle.bl_model.specs.declared.deciding.Effect.TheVariants.{Keep, Enter, Remove, Replace}
use Rattle.bl_model.specs.Writes.{effect_of, replied}
use Rattle.bl_page.specs.declared.page.Page.{Page}
use Rattle.bl_page.specs.Nodes.{node_of}
use Rattle.bl_proc_steps.specs.declared.acts.Action.{Action}
use Rattle.bl_proc_steps.specs.declared.acts.Action.TheVariants as act
use Rattle.bl_proc_steps.specs.declared.acts.Seen.{Seen}
use Rattle.bl_proc_steps.specs.declared.acts.Seen.TheVariants as seen
use Rattle.bl_answers.specs.declared.answers.Answer.{Answer}
use Rattle.bl_answers.specs.declared.answers.Answer.TheVariants.{Op}
use Rattle.bl_proc_steps.specs.declared.approach.Approach.TheVariants.{Start}
use Rattle.bl_proc_steps.specs.declared.approach.Approached.TheVariants as came
use Rattle.bl_proc_steps.specs.declared.edit.Outcome.{Outcome}
use Rattle.bl_proc_steps.specs.declared.edit.Outcome.TheVariants as outcome
use Rattle.bl_proc_steps.specs.declared.edit.Edit.{Edit}
use Rattle.bl_proc_steps.specs.declared.edit.Edit.TheVariants as edit
use Rattle.bl_proc_steps.specs.declared.edit.Edited.TheVariants as changed
use Rattle.bl_proc_writes.specs.declared.writing.Noted.{Noted}
use Rattle.bl_proc_writes.specs.declared.writing.Write.{Write}
use Rattle.bl_proc_writes.specs.declared.writing.WriteStage.{WriteStage}
use Rattle.bl_proc_writes.specs.declared.writing.WriteStage.TheVariants.{New, Coming, Keeping, Editing, Ending, Over}
use Rattle.bl_proc_writes.specs.declared.writing.WriteReply.{WriteReply}
use Rattle.bl_proc_writes.specs.declared.writing.WriteReply.TheVariants.{Done, NoRoom}
use Rattle.bl_answers.specs.Hints.{post_hint}
use Rattle.bl_answers.specs.Thin.{thin_low, thin_hint}
use Rattle.bl_proc_steps.specs.Approaches.{approach_next, Approaches}
use Rattle.bl_proc_steps.specs.Edits.{edit_next, edit_needs, EntersPair, DropsPair, GivesValue, Changes}

-- What a write answers when its leaf is open again. A leaf that is thin without the key is to be merged or evened out, by its
-- parent; the upper half of one that was split is to be listed there.
abbrev pub write_reply : Noted → Outcome → WriteReply
write_reply noted outcome.Edited = Done noted.there (thin_hint 1 noted.thin)
write_reply noted (outcome.SplitAt separator) = Done noted.there (post_hint 1 (Some separator))
write_reply noted outcome.Refused = NoRoom

abbrev pub write_answer : KeyWrite → WriteReply → Answer
write_answer write (Done there hint) = Op (replied write there) hint
write_answer write NoRoom = Op reply.NoRoom None

abbrev pub write_next_in : WriteStage → Action
write_next_in New = act.Begin
write_next_in (Coming a) = approach_next a
write_next_in (Keeping x there) = act.Open x
write_next_in (Editing noted c) = edit_next c
write_next_in (Ending r) = act.End
write_next_in (Over r) = act.End

abbrev pub write_needs_in : WriteStage → Option (ℕ × ℕ)
write_needs_in New = None
write_needs_in (Coming a) = None
write_needs_in (Keeping x there) = None
write_needs_in (Editing noted c) = edit_needs c
write_needs_in (Ending r) = None
write_needs_in (Over r) = None

abbrev pub write_answer_in : KeyWrite → WriteStage → Option Answer
write_answer_in write New = None
write_answer_in write (Coming a) = None
write_answer_in write (Keeping x there) = None
write_answer_in write (Editing noted c) = None
write_answer_in write (Ending r) = None
write_answer_in write (Over r) = Some (write_answer write r)

-- the low of the page that is to be put, if it is thin
abbrev pub thin_after : Edit → Option ℕ
thin_after (edit.Putting x page) = thin_low page
thin_after c = None

-- what is noted of it: only a page that loses a pair comes to be thin
abbrev pub thin_by : Effect → Edit → Option ℕ
thin_by Keep c = None
thin_by (Enter value) c = None
thin_by Remove c = thin_after c
thin_by (Replace value) c = None

-- Page x, which is c, is to change so.
abbrev pub Performs : Effect → ℕ → Page → ℕ → Edit → Type 0
Performs Keep x c key d = ⊥
Performs (Enter value) x c key d = EntersPair x c key value d
Performs Remove x c key d = DropsPair x c key d
Performs (Replace value) x c key d = GivesValue x c key value d

-- At the leaf x that covers the key, which is c: it stays as it is, or changes, by what it lists with the key.
abbrev pub WriteArrives : ℕ → KeyWrite → ℕ → Page → WriteStage → Type 0
WriteArrives key write x c (Keeping y there) = (y ≡ x) × ((node_of c).look key ≡ there) × (effect_of write there ≡ Keep)
WriteArrives key write x c (Editing noted d) =
    ((node_of c).look key ≡ noted.there) × Performs (effect_of write noted.there) x c key d × (noted.thin ≡ thin_by (effect_of write noted.there) d)
WriteArrives key write x c stage = ⊥

abbrev pub WriteGoes : ℕ → KeyWrite → WriteStage → Seen → WriteStage → Type 0
WriteGoes key write New seen.Done (Coming a) = a ≡ Start
WriteGoes key write (Coming a) what (Coming b) = Approaches 0 key a what (came.On b)
WriteGoes key write (Coming a) what new = (x : ℕ) × (c : Page) × Approaches 0 key a what (came.Here x c) × WriteArrives key write x c new
WriteGoes key write (Keeping x there) seen.Done (Ending r) = r ≡ Done there None
WriteGoes key write (Editing noted c) what (Editing same d) = (same ≡ noted) × Changes c what (changed.On d)
WriteGoes key write (Editing noted c) what (Ending r) = (o : Outcome) × Changes c what (changed.Over o) × (r ≡ write_reply noted o)
WriteGoes key write (Ending r) seen.Done (Over last) = last ≡ r
WriteGoes key write old what new = ⊥

abbrev pub write_next_of : Write → Action
write_next_of p = write_next_in p.stage

abbrev pub write_needs_of : Write → Option (ℕ × ℕ)
write_needs_of p = write_needs_in p.stage

abbrev pub write_answer_of : Write → Option Answer
write_answer_of p = write_answer_in p.write p.stage

abbrev pub WriteTakes : Write → Seen → Write → Type 0
WriteTakes old what new = (new.key ≡ old.key) × (new.write ≡ old.write) × WriteGoes old.key old.write old.stage what new.stage
