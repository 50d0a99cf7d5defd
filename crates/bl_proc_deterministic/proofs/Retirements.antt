-- A page is retired right after a put: of the kinds of an index, a compression alone retires one.
use Rattle.std.proofs.Common.{ℕ, ◌≡◌, refl, subst, Bool}
use Rattle.bl_proc_steps.specs.declared.acts.Action.{Action}
use Rattle.bl_proc_steps.specs.declared.acts.Action.TheVariants as act
use Rattle.bl_proc_steps.specs.declared.acts.Seen.{Seen}
use Rattle.bl_proc_steps.specs.declared.acts.Seen.TheVariants as seen
use Rattle.bl_proc_steps.specs.declared.approach.Approach.{Approach}
use Rattle.bl_proc_steps.specs.declared.approach.Approach.TheVariants as way
use Rattle.bl_proc_steps.specs.declared.edit.Edit.{Edit}
use Rattle.bl_proc_steps.specs.declared.edit.Edit.TheVariants as edit
use Rattle.bl_proc_steps.specs.declared.growth.Growth.{Growth}
use Rattle.bl_proc_steps.specs.declared.growth.Growth.TheVariants as growth
use Rattle.bl_proc_steps.specs.Approaches.{approach_next}
use Rattle.bl_proc_steps.specs.Edits.{edit_next}
use Rattle.bl_proc_steps.specs.Growths.{growth_next}
use Rattle.bl_rearrange.specs.declared.sides.Side.{Side}
use Rattle.bl_rearrange.specs.declared.sides.Side.TheVariants as side
use Rattle.bl_proc_writes.specs.declared.writing.WriteStage.{WriteStage}
use Rattle.bl_proc_writes.specs.declared.writing.WriteStage.TheVariants as write
use Rattle.bl_proc_writes.specs.Writes.{write_next_in}
use Rattle.bl_proc_writes.specs.declared.post.Post.{Post}
use Rattle.bl_proc_writes.specs.declared.post.PostStage.{PostStage}
use Rattle.bl_proc_writes.specs.declared.post.PostStage.TheVariants as post
use Rattle.bl_rearrange.specs.declared.families.Siblings.{Siblings}
use Rattle.bl_proc_compress.specs.declared.compression.Puts.{Puts}
use Rattle.bl_proc_compress.specs.declared.compression.Decision.{Decision}
use Rattle.bl_proc_compress.specs.declared.compression.Compression.{Compression}
use Rattle.bl_proc_compress.specs.declared.compression.Compression.TheVariants.{LatchingLeft, LatchedLeft, LatchingRight, LatchedRight, PuttingFirst, PuttingParent, PuttingLast, Retiring, OpeningRight, OpeningLeft, OpeningParent}
use Rattle.bl_proc_compress.specs.declared.compression.Compressed.TheVariants.{On}
use Rattle.bl_proc_compress.specs.declared.compress.Compress.{Compress}
use Rattle.bl_proc_compress.specs.declared.compress.CompressStage.{CompressStage}
use Rattle.bl_proc_compress.specs.Compressions.{put_of, other, compression_next, Links, Decides}
use Rattle.bl_proc_compress.specs.Compresses.{compress_next_in}
use Rattle.bl_proc.specs.declared.kinds.Proc.TheVariants as proc
use Rattle.bl_proc_writes.specs.Posts.{post_next_in}
use Rattle.bl_proc.specs.Processes.{next_of, Takes}
use Rattle.bl_proc_deterministic.specs.Retirements.{IsPutDone, RetiresAfter}
use Rattle.bl_proc_deterministic.proofs.WayCases.{CompressionCase, compression_case}
use Rattle.bl_proc_deterministic.proofs.KindCases.{CompressCase, compress_case}

module _ (old : Action) (what : Seen) where
  approach_none : (a : Approach) → RetiresAfter old what (approach_next a)
  approach_none way.Start = tt
  approach_none (way.At x) = tt
  approach_none (way.Latching x) = tt
  approach_none (way.Latched x) = tt
  approach_none (way.Leaving x to) = tt

  edit_none : (c : Edit) → RetiresAfter old what (edit_next c)
  edit_none (edit.Putting x page) = tt
  edit_none (edit.Taking full) = tt
  edit_none (edit.PuttingNew p) = tt
  edit_none (edit.PuttingOld p) = tt
  edit_none (edit.OpeningNew x new separator) = tt
  edit_none (edit.Opening x o) = tt

  growth_none : (g : Growth) → RetiresAfter old what (growth_next g)
  growth_none growth.Latching = tt
  growth_none growth.Latched = tt
  growth_none (growth.Taking rise) = tt
  growth_none (growth.PuttingTop r) = tt
  growth_none (growth.PuttingAnchor r) = tt
  growth_none (growth.OpeningTop x) = tt
  growth_none growth.OpeningGrown = tt
  growth_none growth.OpeningRefused = tt

  pub write_none : (a : WriteStage) → RetiresAfter old what (write_next_in a)
  write_none write.New = tt
  write_none (write.Coming a) = approach_none a
  write_none (write.Keeping x there) = tt
  write_none (write.Editing noted c) = edit_none c
  write_none (write.Ending r) = tt
  write_none (write.Over r) = tt

  pub post_none : (a : PostStage) → RetiresAfter old what (post_next_in a)
  post_none post.New = tt
  post_none (post.Coming w) = approach_none w
  post_none (post.Growing g) = growth_none g
  post_none (post.Walking w) = tt
  post_none (post.Editing c) = edit_none c
  post_none (post.Staying x r) = tt
  post_none (post.Ending r) = tt
  post_none (post.Over r) = tt

  put_none : (s : Side) (p : Puts) → RetiresAfter old what (put_of s p)
  put_none side.Left p = tt
  put_none side.Right p = tt

pub put_done : (s : Side) (p : Puts) → IsPutDone (put_of s p) seen.Done
put_done side.Left p = tt
put_done side.Right p = tt

-- a compression that goes on to the retirement
to_retiring : {c : Compression} {what : Seen} {d : Compression} {at : Siblings} {decision : Decision} → CompressionCase c what (On d) → d ≡ Retiring at decision → IsPutDone (compression_next c) what
to_retiring (CompressionCase.PutLast p d t) e = put_done (other p.gains) p
to_retiring (CompressionCase.GotLeft f c d t) e = absurd (subst (Links f c) e t)
to_retiring (CompressionCase.GotRight f c g d t) e = absurd (subst (Decides f c g) e t)
to_retiring (CompressionCase.LatchLeft f d t) e = cc
to_retiring (CompressionCase.MissLeft f d t) e = cc
to_retiring (CompressionCase.LeaveLeft f d t) e = cc
to_retiring (CompressionCase.LatchRight f c d t) e = cc
to_retiring (CompressionCase.MissRight f c d t) e = cc
to_retiring (CompressionCase.LeaveRight f c d t) e = cc
to_retiring (CompressionCase.PutFirst p d t) e = cc
to_retiring (CompressionCase.FirstRefused p d t) e = cc
to_retiring (CompressionCase.PutParent p d t) e = cc
to_retiring (CompressionCase.Retired u f d t) e = cc
to_retiring (CompressionCase.OpenedRight u f d t) e = cc
to_retiring (CompressionCase.OpenedLeft u f d t) e = cc

-- and a process that may come to it from there alone
after_unless : (old : Action) (what : Seen) (d : Compression) → ((at : Siblings) (decision : Decision) → d ≡ Retiring at decision → IsPutDone old what) → RetiresAfter old what (compression_next d)
after_unless old what (LatchingLeft f) done = tt
after_unless old what (LatchedLeft f) done = tt
after_unless old what (LatchingRight f page) done = tt
after_unless old what (LatchedRight f page) done = tt
after_unless old what (PuttingFirst p) done = put_none old what p.gains p
after_unless old what (PuttingParent p) done = tt
after_unless old what (PuttingLast p) done = put_none old what (other p.gains) p
after_unless old what (Retiring at decision) done = done at decision refl
after_unless old what (OpeningRight at decision) done = tt
after_unless old what (OpeningLeft at decision) done = tt
after_unless old what (OpeningParent x decision) done = tt

stage_after : {level key : ℕ} {waits : Bool} {a b : CompressStage} {what : Seen} → CompressCase level key waits a what b → RetiresAfter (compress_next_in a) what (compress_next_in b)
stage_after (CompressCase.Began w t) = approach_none act.Begin seen.Done w
stage_after (CompressCase.Came a what b t) = approach_none (approach_next a) what b
stage_after (CompressCase.WentOn c what d t) = after_unless (compression_next c) what d (λ at decision e. to_retiring (compression_case _ c what _ t) e)
stage_after (CompressCase.Lost c what a t) = approach_none (compression_next c) what a
stage_after other = tt

pub post_retires : (p q : Post) (what : Seen) → Takes (proc.Post p) what (proc.Post q) → RetiresAfter (next_of (proc.Post p)) what (next_of (proc.Post q))
post_retires p q what t = post_none (next_of (proc.Post p)) what q.stage

pub compress_retires : (p q : Compress) (what : Seen) → Takes (proc.Compress p) what (proc.Compress q) → RetiresAfter (next_of (proc.Compress p)) what (next_of (proc.Compress q))
compress_retires p q what t = stage_after (compress_case p.level p.key p.waits p.stage what q.stage t.3)
