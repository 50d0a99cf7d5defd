-- A process that is to begin does not go on without room.
use Rattle.std.proofs.Common.{ℕ, ◌≡◌}
use Rattle.bl_proc_steps.specs.declared.acts.Action.TheVariants as act
use Rattle.bl_proc_writes.specs.declared.writing.WriteStage.{WriteStage}
use Rattle.bl_proc_writes.specs.declared.writing.WriteStage.TheVariants as write
use Rattle.bl_proc_writes.specs.declared.post.PostStage.{PostStage}
use Rattle.bl_proc_writes.specs.declared.post.PostStage.TheVariants as post
use Rattle.bl_proc_compress.specs.declared.compress.CompressStage.{CompressStage}
use Rattle.bl_proc_compress.specs.declared.compress.CompressStage.TheVariants as compress
use Rattle.bl_proc.specs.declared.kinds.Proc.{Proc}
use Rattle.bl_proc.specs.declared.lowering.LowerStage.{LowerStage}
use Rattle.bl_proc.specs.declared.lowering.LowerStage.TheVariants as lower
use Rattle.bl_proc.specs.declared.kinds.Proc.TheVariants as proc
use Rattle.bl_proc.specs.Processes.{next_of, IsReclaim}
use Rattle.bl_proc_writes.specs.Writes.{write_next_in}
use Rattle.bl_proc_writes.specs.Posts.{post_next_in}
use Rattle.bl_proc_compress.specs.Compresses.{compress_next_in}
use Rattle.bl_proc.specs.Lowers.{lower_next_in}
use Rattle.bl_proc_writes.specs.declared.insert_post.ClimbStage.{ClimbStage}
use Rattle.bl_proc_writes.specs.declared.insert_post.ClimbStage.TheVariants as climb
use Rattle.bl_proc_writes.specs.InsertPosts.{climb_next_in}
use Rattle.bl_proc_deterministic.specs.Refusals.{WriteRefused, PostRefused, CompressRefused, LowerRefused, ClimbRefused, IsRefused}
use Rattle.bl_world.proofs.Begins.{edit_begins, growth_begins, compression_begins, lowering_begins}

-- A process that is to begin was not refused.

write_free : (a : WriteStage) → write_next_in a ≡ act.Begin → WriteRefused a → ⊥
write_free write.New e r = r
write_free (write.Coming a) e r = r
write_free (write.Keeping x there) e r = r
write_free (write.Editing noted c) e r = edit_begins c e
write_free (write.Ending x) e r = cc
write_free (write.Over x) e r = cc

post_free : (a : PostStage) → post_next_in a ≡ act.Begin → PostRefused a → ⊥
post_free post.New e r = r
post_free (post.Coming a) e r = r
post_free (post.Growing g) e r = growth_begins g e
post_free (post.Walking w) e r = r
post_free (post.Editing c) e r = edit_begins c e
post_free (post.Staying x s) e r = cc
post_free (post.Ending x) e r = cc
post_free (post.Over x) e r = cc

compress_free : (a : CompressStage) → compress_next_in a ≡ act.Begin → CompressRefused a → ⊥
compress_free compress.New e r = r
compress_free (compress.Coming a) e r = r
compress_free (compress.Compressing c) e r = compression_begins c e
compress_free (compress.Staying x) e r = r
compress_free (compress.Ending s) e r = cc
compress_free (compress.Over s) e r = cc

lower_free : (a : LowerStage) → lower_next_in a ≡ act.Begin → LowerRefused a → ⊥
lower_free lower.New e r = r
lower_free (lower.Sinking l) e r = lowering_begins l e
lower_free (lower.Ending q) e r = cc
lower_free (lower.Over q) e r = cc

climb_free : (a : ClimbStage) → climb_next_in a ≡ act.Begin → ClimbRefused a → ⊥
climb_free (climb.Writing w) e r = write_free w.stage e r
climb_free (climb.Posting p) e r = post_free p.stage e r
climb_free (climb.Ending q) e r = cc
climb_free (climb.Over q) e r = cc

pub begins_free : (p : Proc) → next_of p ≡ act.Begin → IsRefused p → ⊥
begins_free (proc.Find p) e r = r
begins_free (proc.Write p) e r = write_free p.stage e r
begins_free (proc.Post p) e r = post_free p.stage e r
begins_free (proc.Part p) e r = r
begins_free (proc.Compress p) e r = compress_free p.stage e r
begins_free (proc.Reclaim p) e r = r
begins_free (proc.Lower p) e r = lower_free p.stage e r
begins_free (proc.InsertPost p) e r = climb_free p.stage e r

-- Nor is one that is to release a page.
pub reclaim_free : (x : ℕ) (p : Proc) → IsReclaim x p → IsRefused p → ⊥
reclaim_free x (proc.Reclaim p) e r = r
reclaim_free x (proc.Find p) e r = e
reclaim_free x (proc.Write p) e r = e
reclaim_free x (proc.Post p) e r = e
reclaim_free x (proc.Part p) e r = e
reclaim_free x (proc.Compress p) e r = e
reclaim_free x (proc.Lower p) e r = e
reclaim_free x (proc.InsertPost p) e r = e
