-- A compression that misses nothing goes as one that waits.
use Rattle.std.proofs.Common.{ℕ, ◌≡◌, ◌≢◌, ◌⊎◌, Bool, true, false, refl, inl, inr}
use Rattle.bl_page.specs.declared.page.Page.{Page}
use Rattle.bl_proc_steps.specs.declared.acts.Seen.{Seen}
use Rattle.bl_proc_steps.specs.declared.acts.Seen.TheVariants as seen
use Rattle.bl_proc_compress.specs.declared.compression.Decision.{Decision}
use Rattle.bl_proc_compress.specs.declared.compression.Decision.TheVariants as decision
use Rattle.bl_proc_compress.specs.declared.compression.Compression.{Compression}
use Rattle.bl_proc_compress.specs.declared.compression.Compression.TheVariants as compression
use Rattle.bl_proc_compress.specs.declared.compression.Compressed.{Compressed}
use Rattle.bl_proc_compress.specs.declared.compression.Compressed.TheVariants as step
use Rattle.bl_proc_compress.specs.declared.compress.CompressStage.{CompressStage}
use Rattle.bl_proc_compress.specs.declared.compress.CompressStage.TheVariants as compress
use Rattle.bl_proc_compress.specs.Compressions.{Compresses}
use Rattle.bl_proc_compress.specs.Compresses.{CompressGoes}
use Rattle.bl_proc_writes.specs.declared.post.PostReply.{PostReply}
use Rattle.bl_proc_writes.specs.declared.post.PostReply.TheVariants as listed
use Rattle.bl_proc_writes.specs.declared.post.PostStage.{PostStage}
use Rattle.bl_proc_writes.specs.declared.post.PostStage.TheVariants as post
use Rattle.bl_proc_writes.specs.declared.insert_post.ClimbStage.{ClimbStage}
use Rattle.bl_proc_writes.specs.declared.insert_post.ClimbStage.TheVariants as climb
use Rattle.bl_proc.specs.declared.kinds.Proc.{Proc}
use Rattle.bl_proc.specs.declared.kinds.Proc.TheVariants as proc
use Rattle.bl_proc.specs.Processes.{next_of, Takes}
use Rattle.bl_proc_invariant.specs.Knowing.{know_of}
use Rattle.bl_proc_ends.specs.Left.{IsStay, IsFound, IsStaying, IsCompressing, IsClimbing, IsMeant}
use Rattle.bl_proc_rest.specs.Rests.{patient}

pub patient_next : (p : Proc) → next_of (patient p) ≡ next_of p
patient_next (proc.Find p) = refl
patient_next (proc.Write p) = refl
patient_next (proc.Post p) = refl
patient_next (proc.Part p) = refl
patient_next (proc.Compress p) = refl
patient_next (proc.Reclaim p) = refl
patient_next (proc.Lower p) = refl
patient_next (proc.InsertPost p) = refl

pub patient_know : (got : ℕ → Page) (child time : ℕ) (p : Proc) → know_of got child time p ≡ know_of got child time (patient p)
patient_know got child time (proc.Find p) = refl
patient_know got child time (proc.Write p) = refl
patient_know got child time (proc.Post p) = refl
patient_know got child time (proc.Part p) = refl
patient_know got child time (proc.Compress p) = refl
patient_know got child time (proc.Reclaim p) = refl
patient_know got child time (proc.Lower p) = refl
patient_know got child time (proc.InsertPost p) = refl

compression_alike : (waits : Bool) (c : Compression) (what : Seen) (m : Compressed) → what ≢ seen.Missed → Compresses waits c what m → Compresses true c what m
compression_alike true c what m n t = t
compression_alike false (compression.LatchingLeft f) seen.Missed m n t = absurd (n refl)
compression_alike false (compression.LatchingRight f c) seen.Missed m n t = absurd (n refl)
compression_alike false (compression.LatchingLeft f) seen.Done (step.On new) n t = t
compression_alike false (compression.LatchedLeft f) (seen.Words c) (step.On new) n t = t
compression_alike false (compression.LatchingRight f c) seen.Done (step.On new) n t = t
compression_alike false (compression.LatchedRight f c) (seen.Words d) (step.On new) n t = t
compression_alike false (compression.PuttingFirst p) seen.Done (step.On new) n t = t
compression_alike false (compression.PuttingFirst p) seen.Refused (step.On new) n t = t
compression_alike false (compression.PuttingParent p) seen.Done (step.On new) n t = t
compression_alike false (compression.PuttingLast p) seen.Done (step.On new) n t = t
compression_alike false (compression.Retiring at d) seen.Done (step.On new) n t = t
compression_alike false (compression.OpeningRight at d) seen.Done (step.On new) n t = t
compression_alike false (compression.OpeningLeft at d) seen.Done (step.On new) n t = t
compression_alike false (compression.OpeningParent x d) seen.Done (step.Over last) n t = t
compression_alike false c what m n t = absurd t

as_waiting : (level key : ℕ) (waits : Bool) (a : CompressStage) (what : Seen) (b : CompressStage) → what ≢ seen.Missed → CompressGoes level key waits a what b → CompressGoes level key true a what b
as_waiting level key waits compress.New seen.Done (compress.Coming a) n t = t
as_waiting level key waits (compress.Coming a) what b n t = t
as_waiting level key waits (compress.Compressing c) what (compress.Compressing d) n t = compression_alike waits c what (step.On d) n t
as_waiting level key waits (compress.Compressing c) what (compress.Coming a) n t = (t.0, compression_alike waits c what (step.Over t.0) n t.1, t.2, t.3)
as_waiting level key waits (compress.Compressing c) what (compress.Ending r) n t = (t.0, compression_alike waits c what (step.Over t.0) n t.1, t.2)
as_waiting level key waits (compress.Staying x) seen.Done (compress.Ending r) n t = t
as_waiting level key waits (compress.Ending r) seen.Done (compress.Over last) n t = t
as_waiting level key waits a what b n t = absurd t

pub patient_takes : (old new : Proc) (what : Seen) → what ≢ seen.Missed → Takes old what new → Takes (patient old) what (patient new)
patient_takes (proc.Find a) (proc.Find b) what n t = t
patient_takes (proc.Write a) (proc.Write b) what n t = t
patient_takes (proc.Post a) (proc.Post b) what n t = t
patient_takes (proc.Part a) (proc.Part b) what n t = t
patient_takes (proc.Compress a) (proc.Compress b) what n t = (t.0, t.1, refl, as_waiting a.level a.key a.waits a.stage what b.stage n t.3)
patient_takes (proc.Reclaim a) (proc.Reclaim b) what n t = t
patient_takes (proc.Lower a) (proc.Lower b) what n t = t
patient_takes (proc.InsertPost a) (proc.InsertPost b) what n t = t
patient_takes old new what n t = absurd t

-- Whether a process is meant can be told.

stay_or : (r : PostReply) → IsStay r ⊎ (¬ IsStay r)
stay_or listed.Already = inl tt
stay_or listed.Stale = inl tt
stay_or r = inr (λ h. absurd h)

lost_or : (d : Decision) → (d ≢ decision.Lost) ⊎ (d ≡ decision.Lost)
lost_or (decision.Merged h) = inl (λ e. cc)
lost_or decision.Evened = inl (λ e. cc)
lost_or decision.Enough = inl (λ e. cc)
lost_or (decision.Unposted h) = inl (λ e. cc)
lost_or decision.Refused = inl (λ e. cc)
lost_or decision.Lost = inr refl

found_by : (d : Decision) → (d ≢ decision.Lost) ⊎ (¬ (d ≢ decision.Lost))
found_by d = elim (lost_or d) [ inl n ↦ inl n | inr e ↦ inr (λ n. n e) ]

found_or : (c : Compression) → IsFound c ⊎ (¬ IsFound c)
found_or (compression.LatchingLeft f) = inl tt
found_or (compression.LatchedLeft f) = inl tt
found_or (compression.LatchingRight f c) = inl tt
found_or (compression.LatchedRight f c) = inl tt
found_or (compression.PuttingFirst p) = found_by p.decision
found_or (compression.PuttingParent p) = found_by p.decision
found_or (compression.PuttingLast p) = found_by p.decision
found_or (compression.Retiring at d) = found_by d
found_or (compression.OpeningRight at d) = found_by d
found_or (compression.OpeningLeft at d) = found_by d
found_or (compression.OpeningParent x d) = found_by d

staying_or : (a : PostStage) → IsStaying a ⊎ (¬ IsStaying a)
staying_or (post.Staying x r) = stay_or r
staying_or a = inl tt

compressing_or : (a : CompressStage) → IsCompressing a ⊎ (¬ IsCompressing a)
compressing_or (compress.Compressing c) = found_or c
compressing_or a = inl tt

climbing_or : (a : ClimbStage) → IsClimbing a ⊎ (¬ IsClimbing a)
climbing_or (climb.Posting p) = staying_or p.stage
climbing_or a = inl tt

pub meant_or : (p : Proc) → IsMeant (patient p) ⊎ (¬ IsMeant (patient p))
meant_or (proc.Find p) = inl tt
meant_or (proc.Write p) = inl tt
meant_or (proc.Post p) = staying_or p.stage
meant_or (proc.Part p) = inl tt
meant_or (proc.Compress p) = elim (compressing_or p.stage) [ inl h ↦ inl (refl, h) | inr n ↦ inr (λ h. n h.1) ]
meant_or (proc.Reclaim p) = inr (λ h. absurd h)
meant_or (proc.Lower p) = inl tt
meant_or (proc.InsertPost p) = climbing_or p.stage
