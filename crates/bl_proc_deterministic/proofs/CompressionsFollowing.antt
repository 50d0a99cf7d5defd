-- What a process that compresses wants, and what follows.
use Rattle.std.proofs.Common.{ℕ, suc, ◌≡◌, ◌≢◌, Some, None, refl, sym, ap, ◌∙◌, arith, Bool}
use Rattle.bl_page.specs.declared.page.Page.{Page}
use Rattle.bl_rearrange.specs.declared.sides.Side.{Side}
use Rattle.bl_rearrange.specs.declared.sides.Side.TheVariants as side
use Rattle.bl_proc_steps.specs.declared.acts.Action.TheVariants as act
use Rattle.bl_proc_steps.specs.declared.acts.Seen.{Seen}
use Rattle.bl_proc_steps.specs.declared.acts.Seen.TheVariants as seen
use Rattle.bl_rearrange.specs.declared.families.Siblings.{Siblings}
use Rattle.bl_rearrange.specs.declared.families.Family.{Family}
use Rattle.bl_proc_compress.specs.declared.compression.Puts.{Puts}
use Rattle.bl_proc_compress.specs.declared.compression.Decision.{Decision}
use Rattle.bl_proc_compress.specs.declared.compression.Decision.TheVariants as decision
use Rattle.bl_proc_compress.specs.declared.compression.Compression.{Compression}
use Rattle.bl_proc_compress.specs.declared.compression.Compression.TheVariants as step
use Rattle.bl_proc_compress.specs.declared.compression.Compressed.TheVariants as compressed
use Rattle.bl_proc_compress.specs.declared.compress.Compress.{Compress}
use Rattle.bl_proc_compress.specs.declared.compress.CompressStage.{CompressStage}
use Rattle.bl_proc_compress.specs.declared.compress.CompressStage.TheVariants as compress
use Rattle.bl_proc_compress.specs.Compressions.{put_of, other, after_puts, compression_next, compression_needs, Links, Decides}
use Rattle.bl_proc_compress.specs.Compresses.{compress_next_in, compress_needs_in, compress_answer_in}
use Rattle.bl_proc.specs.declared.kinds.Proc.TheVariants as proc
use Rattle.bl_proc.specs.Processes.{Takes}
use Rattle.bl_proc_deterministic.specs.Frames.{compression_frames, compress_frames, Wants, Leaves, Follows}
use Rattle.bl_proc_deterministic.proofs.Following.{approach_wants, approach_leaves, not_begin_way}
use Rattle.bl_proc_deterministic.proofs.WayCases.{CompressionCase, compression_case}
use Rattle.bl_proc_deterministic.proofs.KindCases.{CompressCase, compress_case}

-- the put of a child, whichever it is
first_wants : (s : Side) (p : Puts) → Wants (put_of s p) (Some (0, 3)) 0
first_wants side.Left p = (refl, refl, omega arith, omega arith)
first_wants side.Right p = (refl, refl, omega arith, omega arith)

last_wants : (s : Side) (p : Puts) → Wants (put_of s p) None 1
last_wants side.Left p = λ e. omega arith
last_wants side.Right p = λ e. omega arith

first_leaves : (s : Side) (p : Puts) (after : ℕ) → after ≡ 2 → Leaves (put_of s p) (Some (0, 3)) seen.Done 0 after
first_leaves side.Left p after e = ap suc e
first_leaves side.Right p after e = ap suc e

first_refused : (s : Side) (p : Puts) (after : ℕ) → after ≡ 0 → Leaves (put_of s p) (Some (0, 3)) seen.Refused 0 after
first_refused side.Left p after e = e
first_refused side.Right p after e = e

last_leaves : (s : Side) (p : Puts) (after : ℕ) → after ≡ 0 → Leaves (put_of s p) None seen.Done 1 after
last_leaves side.Left p after e = sym (ap suc e)
last_leaves side.Right p after e = sym (ap suc e)

put_not_begin : (s : Side) (p : Puts) → put_of s p ≢ act.Begin
put_not_begin side.Left p e = cc
put_not_begin side.Right p e = cc

compression_wants : (c : Compression) → Wants (compression_next c) (compression_needs c) (compression_frames c)
compression_wants (step.LatchingLeft f) = refl
compression_wants (step.LatchedLeft f) = refl
compression_wants (step.LatchingRight f d) = refl
compression_wants (step.LatchedRight f d) = refl
compression_wants (step.PuttingFirst p) = first_wants p.gains p
compression_wants (step.PuttingParent p) = λ e. omega arith
compression_wants (step.PuttingLast p) = last_wants (other p.gains) p
compression_wants (step.Retiring at z) = refl
compression_wants (step.OpeningRight at z) = refl
compression_wants (step.OpeningLeft at z) = refl
compression_wants (step.OpeningParent x z) = refl

pub compress_wants : (p : Compress) → Wants (compress_next_in p.stage) (compress_needs_in p.stage) (compress_frames p.stage)
compress_wants p = wants p.stage
  where
    wants : (a : CompressStage) → Wants (compress_next_in a) (compress_needs_in a) (compress_frames a)
    wants compress.New = refl
    wants (compress.Coming a) = approach_wants a None
    wants (compress.Compressing c) = compression_wants c
    wants (compress.Staying x) = refl
    wants (compress.Ending r) = refl
    wants (compress.Over r) = refl

-- No frames are left but between the puts.
links_frames : (f : Family) (c : Page) (e : Compression) → Links f c e → compression_frames e ≡ 0
links_frames f c (step.LatchingRight g page) t = refl
links_frames f c (step.OpeningLeft at became) t = refl
links_frames f c old t = absurd t

decides_frames : (f : Family) (c d : Page) (e : Compression) → Decides f c d e → compression_frames e ≡ 0
decides_frames f c d (step.PuttingFirst p) t = refl
decides_frames f c d (step.OpeningRight at decision.Enough) t = refl
decides_frames f c d (step.OpeningRight at decision.Lost) t = refl
decides_frames f c d old t = absurd t

after_frames : (at : Siblings) (became : Decision) → compression_frames (after_puts at became) ≡ 0
after_frames at (decision.Merged h) = refl
after_frames at decision.Evened = refl
after_frames at decision.Enough = refl
after_frames at (decision.Unposted h) = refl
after_frames at decision.Refused = refl
after_frames at decision.Lost = refl

-- a compression of two children that goes on, and one that is over
compression_leaves : {c e : Compression} {what : Seen} → CompressionCase c what (compressed.On e) → Leaves (compression_next c) (compression_needs c) what (compression_frames c) (compression_frames e)
compression_leaves (CompressionCase.GotLeft f c e t) = links_frames f c e t
compression_leaves (CompressionCase.GotRight f c d e t) = decides_frames f c d e t
compression_leaves (CompressionCase.PutFirst p e t) = first_leaves p.gains p (compression_frames e) (ap compression_frames t)
compression_leaves (CompressionCase.FirstRefused p e t) = first_refused p.gains p (compression_frames e) (ap compression_frames t)
compression_leaves (CompressionCase.PutParent p e t) = sym (ap (λ (n : Compression). suc (compression_frames n)) t)
compression_leaves (CompressionCase.PutLast p e t) = last_leaves (other p.gains) p (compression_frames e) (ap compression_frames t ∙ after_frames p.at p.decision)
compression_leaves (CompressionCase.LatchLeft f e t) = ap compression_frames t
compression_leaves (CompressionCase.MissLeft f e t) = ap compression_frames t
compression_leaves (CompressionCase.LeaveLeft f e t) = ap compression_frames t
compression_leaves (CompressionCase.LatchRight f c e t) = ap compression_frames t
compression_leaves (CompressionCase.MissRight f c e t) = ap compression_frames t
compression_leaves (CompressionCase.LeaveRight f c e t) = ap compression_frames t
compression_leaves (CompressionCase.Retired at z e t) = ap compression_frames t
compression_leaves (CompressionCase.OpenedRight at z e t) = ap compression_frames t
compression_leaves (CompressionCase.OpenedLeft at z e t) = ap compression_frames t

compression_over : {c : Compression} {became : Decision} {what : Seen} → CompressionCase c what (compressed.Over became) → Leaves (compression_next c) (compression_needs c) what (compression_frames c) 0
compression_over (CompressionCase.OpenedParent x decision _ t) = refl

not_begin_step : (c : Compression) → compression_next c ≢ act.Begin
not_begin_step (step.LatchingLeft f) e = cc
not_begin_step (step.LatchedLeft f) e = cc
not_begin_step (step.LatchingRight f d) e = cc
not_begin_step (step.LatchedRight f d) e = cc
not_begin_step (step.PuttingFirst p) e = put_not_begin p.gains p e
not_begin_step (step.PuttingParent p) e = cc
not_begin_step (step.PuttingLast p) e = put_not_begin (other p.gains) p e
not_begin_step (step.Retiring at z) e = cc
not_begin_step (step.OpeningRight at z) e = cc
not_begin_step (step.OpeningLeft at z) e = cc
not_begin_step (step.OpeningParent x z) e = cc

compress_leaves : {level key : ℕ} {waits : Bool} {a b : CompressStage} {what : Seen} → CompressCase level key waits a what b → Leaves (compress_next_in a) (compress_needs_in a) what (compress_frames a) (compress_frames b)
compress_leaves (CompressCase.Came a what b t) = approach_leaves a what
compress_leaves (CompressCase.WentOn c what d t) = compression_leaves (compression_case _ c what _ t)
compress_leaves (CompressCase.Lost c what a t) = compression_over (compression_case _ c what _ t.1)
compress_leaves (CompressCase.Finished c what r t) = compression_over (compression_case _ c what _ t.1)
compress_leaves other = refl

compress_begun : {level key : ℕ} {waits : Bool} {a b : CompressStage} {what : Seen} → CompressCase level key waits a what b → compress_next_in b ≢ act.Begin
compress_begun (CompressCase.Began a t) = not_begin_way a
compress_begun (CompressCase.Came a what b t) = not_begin_way b
compress_begun (CompressCase.WentOn c what d t) = not_begin_step d
compress_begun (CompressCase.Lost c what a t) = not_begin_way a
compress_begun other = λ z. cc

compress_running : {level key : ℕ} {waits : Bool} {a b : CompressStage} {what : Seen} → CompressCase level key waits a what b → compress_next_in a ≢ act.End → compress_answer_in b ≡ None
compress_running (CompressCase.Ended r last t) ne = absurd (ne refl)
compress_running other ne = refl

pub compress_follows : (p q : Compress) (what : Seen) → Takes (proc.Compress p) what (proc.Compress q) → Follows (proc.Compress p) what (proc.Compress q)
compress_follows p q what t = (let is = compress_case p.level p.key p.waits p.stage what q.stage t.3 in record {
  frames = compress_leaves is;
  begun = compress_begun is;
  op = refl;
  work = λ i. Some (t.0 i, t.1 i);
  running = compress_running is;
})
