-- A compression, by its state.
use Rattle.std.specs.Prelude.{◌≡◌, ℕ, Bool, Option, None, Some}
use Rattle.bl_page.specs.declared.page.Inner.{Inner}
use Rattle.bl_proc_steps.specs.declared.acts.Action.{Action}
use Rattle.bl_proc_steps.specs.declared.acts.Action.TheVariants as act
use Rattle.bl_proc_steps.specs.declared.acts.Seen.{Seen}
use Rattle.bl_proc_steps.specs.declared.acts.Seen.TheVariants as seen
use Rattle.bl_answers.specs.declared.answers.Answer.{Answer}
use Rattle.bl_answers.specs.declared.answers.Answer.TheVariants as answer
use Rattle.bl_answers.specs.declared.answers.Squeezed.TheVariants as squeezed
use Rattle.bl_proc_steps.specs.declared.approach.Approach.TheVariants.{Start}
use Rattle.bl_proc_steps.specs.declared.approach.Came.{Came}
use Rattle.bl_proc_steps.specs.declared.approach.Came.TheVariants as come
use Rattle.bl_proc_compress.specs.declared.compression.Decision.{Decision}
use Rattle.bl_proc_compress.specs.declared.compression.Decision.TheVariants as decision
use Rattle.bl_proc_compress.specs.declared.compression.Compression.TheVariants.{LatchingLeft}
use Rattle.bl_proc_compress.specs.declared.compression.Compressed.TheVariants as step
use Rattle.bl_proc_compress.specs.declared.compress.Compress.{Compress}
use Rattle.bl_proc_compress.specs.declared.compress.CompressStage.{CompressStage}
use Rattle.bl_proc_compress.specs.declared.compress.CompressStage.TheVariants.{New, Coming, Compressing, Staying, Ending, Over}
use Rattle.bl_proc_compress.specs.declared.compress.CompressReply.{CompressReply}
use Rattle.bl_proc_compress.specs.declared.compress.CompressReply.TheVariants as reply
use Rattle.bl_proc_steps.specs.Approaches.{approach_next, Comes}
use Rattle.bl_proc_compress.specs.Compressions.{AreSiblings, compression_next, compression_needs, Compresses}

-- what a compression answers by what became of the children, if it does not begin again
abbrev pub compress_reply : Decision → Option CompressReply
compress_reply (decision.Merged hint) = Some (reply.Merged hint)
compress_reply decision.Evened = Some reply.Evened
compress_reply decision.Enough = Some reply.Enough
compress_reply (decision.Unposted hint) = Some (reply.Unposted hint)
compress_reply decision.Refused = Some reply.NoRoom
compress_reply decision.Lost = None

abbrev pub compressed_answer : CompressReply → Answer
compressed_answer (reply.Merged hint) = answer.Compress squeezed.Merged hint
compressed_answer reply.Evened = answer.Compress squeezed.Evened None
compressed_answer reply.Enough = answer.Compress squeezed.Enough None
compressed_answer reply.Alone = answer.Compress squeezed.Alone None
compressed_answer (reply.Unposted hint) = answer.Compress squeezed.Unposted (Some hint)
compressed_answer reply.NoRoom = answer.Compress squeezed.NoRoom None

abbrev pub compress_next_in : CompressStage → Action
compress_next_in New = act.Begin
compress_next_in (Coming a) = approach_next a
compress_next_in (Compressing c) = compression_next c
compress_next_in (Staying x) = act.Open x
compress_next_in (Ending r) = act.End
compress_next_in (Over r) = act.End

abbrev pub compress_needs_in : CompressStage → Option (ℕ × ℕ)
compress_needs_in New = None
compress_needs_in (Coming a) = None
compress_needs_in (Compressing c) = compression_needs c
compress_needs_in (Staying x) = None
compress_needs_in (Ending r) = None
compress_needs_in (Over r) = None

abbrev pub compress_answer_in : CompressStage → Option Answer
compress_answer_in New = None
compress_answer_in (Coming a) = None
compress_answer_in (Compressing c) = None
compress_answer_in (Staying x) = None
compress_answer_in (Ending r) = None
compress_answer_in (Over r) = Some (compressed_answer r)

-- At the parent x: two of its children are compressed, or it has but one.
abbrev pub CompressArrives : ℕ → ℕ → Inner → CompressStage → Type 0
CompressArrives key x parent (Compressing (LatchingLeft f)) = AreSiblings x key parent (Some f)
CompressArrives key x parent (Staying y) = (y ≡ x) × AreSiblings x key parent None
CompressArrives key x parent stage = ⊥

-- By what became of the way to the parent: a tree without that level has no such parent.
abbrev pub CompressComes : ℕ → Came → CompressStage → Type 0
CompressComes key (come.NoLevel levels) new = new ≡ Ending reply.Alone
CompressComes key (come.On a) new = new ≡ Coming a
CompressComes key (come.ToParent x parent) new = CompressArrives key x parent new

-- Where what it got is not what the parent lists, it begins again.
abbrev pub CompressGoes : ℕ → ℕ → Bool → CompressStage → Seen → CompressStage → Type 0
CompressGoes level key waits New seen.Done (Coming a) = a ≡ Start
CompressGoes level key waits (Coming a) what new = (m : Came) × Comes level key a what m × CompressComes key m new
CompressGoes level key waits (Compressing c) what (Compressing d) = Compresses waits c what (step.On d)
CompressGoes level key waits (Compressing c) what (Coming a) = (last : Decision) × Compresses waits c what (step.Over last) × (compress_reply last ≡ None) × (a ≡ Start)
CompressGoes level key waits (Compressing c) what (Ending r) = (last : Decision) × Compresses waits c what (step.Over last) × (compress_reply last ≡ Some r)
CompressGoes level key waits (Staying x) seen.Done (Ending r) = r ≡ reply.Alone
CompressGoes level key waits (Ending r) seen.Done (Over last) = last ≡ r
CompressGoes level key waits old what new = ⊥

abbrev pub compress_next : Compress → Action
compress_next p = compress_next_in p.stage

abbrev pub compress_needs : Compress → Option (ℕ × ℕ)
compress_needs p = compress_needs_in p.stage

abbrev pub compress_answer : Compress → Option Answer
compress_answer p = compress_answer_in p.stage

abbrev pub CompressTakes : Compress → Seen → Compress → Type 0
CompressTakes old what new = (new.level ≡ old.level) × (new.key ≡ old.key) × (new.waits ≡ old.waits) × CompressGoes old.level old.key old.waits old.stage what new.stage
