-- The hint beside the reply of a process means what it says.
use Rattle.std.proofs.Common.{◌≡◌, ℕ, [], Option, Some, None, sym, subst}
use Rattle.bl_model.specs.declared.operation.Reply.{Reply}
use Rattle.bl_claims.specs.Trails.{Trail}
use Rattle.bl_claims.specs.Meanings.{writes_of}
use Rattle.bl_answers.specs.declared.answers.Answer.{Answer}
use Rattle.bl_answers.specs.declared.answers.Answer.TheVariants as answer
use Rattle.bl_answers.specs.declared.answers.Hint.{Hint}
use Rattle.bl_proc.specs.declared.searching.FindStage.{FindStage}
use Rattle.bl_proc.specs.declared.searching.FindStage.TheVariants as find
use Rattle.bl_proc.specs.declared.parts.PartStage.{PartStage}
use Rattle.bl_proc.specs.declared.parts.PartStage.TheVariants as part
use Rattle.bl_model.specs.declared.deciding.KeyWrite.{KeyWrite}
use Rattle.bl_model.specs.Writes.{effect_of, replied}
use Rattle.bl_model.proofs.Decisions.{is_decided}
use Rattle.bl_proc_writes.specs.declared.writing.WriteReply.{WriteReply}
use Rattle.bl_proc_writes.specs.declared.writing.WriteReply.TheVariants as written
use Rattle.bl_proc_writes.specs.declared.writing.WriteStage.{WriteStage}
use Rattle.bl_proc_writes.specs.declared.writing.WriteStage.TheVariants as write
use Rattle.bl_proc.specs.declared.kinds.Proc.{Proc}
use Rattle.bl_proc.specs.declared.kinds.Proc.TheVariants as proc
use Rattle.bl_proc.specs.Searches.{find_answer_in}
use Rattle.bl_proc.specs.Parts.{part_answer_in}
use Rattle.bl_proc_writes.specs.Writes.{write_answer, write_answer_in}
use Rattle.bl_proc.specs.Processes.{answer_of}
use Rattle.bl_claims.specs.Hinted.{MeansWritten, WrittenSo}
use Rattle.bl_proc_invariant.specs.Beside.{MeansBeside}
use Rattle.bl_proc_invariant.specs.Logs.{effect_log, written_log, write_log, proc_log}

some_answer : (a b : Answer) → Some a ≡ Some b → a ≡ b
some_answer a b e = cc

same_reply : (p q : Reply) (h i : Option Hint) → answer.Op p h ≡ answer.Op q i → p ≡ q
same_reply p q h i e = cc

same_hint : (p q : Reply) (h i : Option Hint) → answer.Op p h ≡ answer.Op q i → h ≡ i
same_hint p q h i e = cc

-- what was done with the leaf, and what is answered for it
pub effect_means : (does : KeyWrite) (there : Option ℕ) (h : Option Hint) (marks : Trail) → effect_log (effect_of does there) h marks → MeansWritten (replied does there) h marks
effect_means does there h marks log = subst (λ d. WrittenSo d h marks) (sym (is_decided does there).told) log

write_beside : (does : KeyWrite) (r : WriteReply) (reply : Reply) (h : Option Hint) (marks : Trail) → write_answer does r ≡ answer.Op reply h → written_log does r marks → MeansWritten reply h marks
write_beside does (written.Done there hint) reply h marks e log =
    subst (λ z. MeansWritten z h marks) (same_reply _ _ _ _ e) (subst (λ z. MeansWritten (replied does there) z marks) (same_hint _ _ _ _ e) (effect_means does there hint marks log))
write_beside does written.NoRoom reply h marks e log = subst (λ z. MeansWritten z h marks) (same_reply _ _ _ _ e) (log, sym (same_hint _ _ _ _ e))

find_beside : (stage : FindStage) (reply : Reply) (h : Option Hint) (marks : Trail) → find_answer_in stage ≡ Some (answer.Op reply h) → writes_of marks ≡ [] → (writes_of marks ≡ []) × (h ≡ None)
find_beside (find.Over (Some value)) reply h marks e log = (log, sym (same_hint _ _ _ _ (some_answer _ _ e)))
find_beside (find.Over None) reply h marks e log = (log, sym (same_hint _ _ _ _ (some_answer _ _ e)))
find_beside old reply h marks e log = absurd (let f = e in cc)

part_beside : (stage : PartStage) (reply : Reply) (h : Option Hint) (marks : Trail) → part_answer_in stage ≡ Some (answer.Op reply h) → writes_of marks ≡ [] → (writes_of marks ≡ []) × (h ≡ None)
part_beside (part.Over r) reply h marks e log = (log, sym (same_hint _ _ _ _ (some_answer _ _ e)))
part_beside old reply h marks e log = absurd (let f = e in cc)

write_stage : (does : KeyWrite) (stage : WriteStage) (reply : Reply) (h : Option Hint) (marks : Trail) → write_answer_in does stage ≡ Some (answer.Op reply h) → write_log does stage marks → MeansWritten reply h marks
write_stage does (write.Over r) reply h marks e log = write_beside does r reply h marks (some_answer _ _ e) log
write_stage does old reply h marks e log = absurd (let f = e in cc)

pub beside_means : (p : Proc) (reply : Reply) (h : Option Hint) (marks : Trail) → answer_of p ≡ Some (answer.Op reply h) → proc_log p marks → MeansBeside p reply h marks
beside_means (proc.Find p) reply h marks e log = find_beside p.stage reply h marks e log
beside_means (proc.Write p) reply h marks e log = write_stage p.write p.stage reply h marks e log
beside_means (proc.Post p) reply h marks e log = tt
beside_means (proc.Part p) reply h marks e log = part_beside p.stage reply h marks e log
beside_means (proc.Compress p) reply h marks e log = tt
beside_means (proc.Reclaim p) reply h marks e log = tt
beside_means (proc.Lower p) reply h marks e log = tt
beside_means (proc.InsertPost p) reply h marks e log = tt
