-- How long a process holds pages, by its state: how many of its own turns are left until it holds none. Not counted are the missed
-- latches of a child, and the gets of a post that walks to the child.
use Rattle.std.specs.Prelude.{ℕ, ◌≡◌, ◌⊎◌, ◌<◌, ◌≤◌}
use Rattle.bl_proc_steps.specs.declared.acts.Seen.{Seen}
use Rattle.bl_proc_steps.specs.declared.acts.Seen.TheVariants as seen
use Rattle.bl_proc_steps.specs.declared.approach.Approach.{Approach}
use Rattle.bl_proc_steps.specs.declared.approach.Approach.TheVariants as way
use Rattle.bl_proc_steps.specs.declared.edit.Edit.{Edit}
use Rattle.bl_proc_steps.specs.declared.edit.Edit.TheVariants as edit
use Rattle.bl_proc_steps.specs.declared.growth.Growth.{Growth}
use Rattle.bl_proc_steps.specs.declared.growth.Growth.TheVariants as growth
use Rattle.bl_proc_steps.specs.declared.lowering.Lowering.{Lowering}
use Rattle.bl_proc_steps.specs.declared.lowering.Lowering.TheVariants as lowering
use Rattle.bl_proc_compress.specs.declared.compression.Compression.{Compression}
use Rattle.bl_proc_compress.specs.declared.compression.Compression.TheVariants as compression
use Rattle.bl_proc_compress.specs.declared.compress.CompressStage.{CompressStage}
use Rattle.bl_proc_compress.specs.declared.compress.CompressStage.TheVariants as compress
use Rattle.bl_proc_writes.specs.declared.writing.WriteStage.{WriteStage}
use Rattle.bl_proc_writes.specs.declared.writing.WriteStage.TheVariants as write
use Rattle.bl_proc_writes.specs.declared.post.PostStage.{PostStage}
use Rattle.bl_proc_writes.specs.declared.post.PostStage.TheVariants as post
use Rattle.bl_proc_writes.specs.declared.insert_post.ClimbStage.{ClimbStage}
use Rattle.bl_proc_writes.specs.declared.insert_post.ClimbStage.TheVariants as climb
use Rattle.bl_proc.specs.declared.lowering.LowerStage.{LowerStage}
use Rattle.bl_proc.specs.declared.lowering.LowerStage.TheVariants as lower
use Rattle.bl_proc.specs.declared.kinds.Proc.{Proc}
use Rattle.bl_proc.specs.declared.kinds.Proc.TheVariants as proc

-- on the way to a page, from whose latch on it is held so long at most
abbrev pub approach_hold : ℕ → Approach → ℕ
approach_hold most way.Start = 0
approach_hold most (way.At x) = 0
approach_hold most (way.Latching x) = 0
approach_hold most (way.Latched x) = most
approach_hold most (way.Leaving x to) = 1

abbrev pub edit_hold : Edit → ℕ
edit_hold (edit.Putting x page) = 2
edit_hold (edit.Taking full) = 5
edit_hold (edit.PuttingNew p) = 4
edit_hold (edit.PuttingOld p) = 3
edit_hold (edit.OpeningNew x new separator) = 2
edit_hold (edit.Opening x o) = 1

abbrev pub growth_hold : Growth → ℕ
growth_hold growth.Latching = 0
growth_hold growth.Latched = 6
growth_hold (growth.Taking rise) = 5
growth_hold (growth.PuttingTop r) = 4
growth_hold (growth.PuttingAnchor r) = 3
growth_hold (growth.OpeningTop x) = 2
growth_hold growth.OpeningGrown = 1
growth_hold growth.OpeningRefused = 1

abbrev pub lowering_hold : Lowering → ℕ
lowering_hold lowering.Looking = 0
lowering_hold lowering.LatchingAnchor = 0
lowering_hold lowering.LatchedAnchor = 7
lowering_hold (lowering.LatchingTop t) = 6
lowering_hold (lowering.LatchedTop t) = 5
lowering_hold (lowering.PuttingAnchor s) = 4
lowering_hold (lowering.PuttingDead s) = 3
lowering_hold (lowering.Retiring x) = 2
lowering_hold (lowering.OpeningTop x what) = 2
lowering_hold (lowering.OpeningAnchor what) = 1

abbrev pub compression_hold : Compression → ℕ
compression_hold (compression.LatchingLeft f) = 10
compression_hold (compression.LatchedLeft f) = 9
compression_hold (compression.LatchingRight f c) = 8
compression_hold (compression.LatchedRight f c) = 7
compression_hold (compression.PuttingFirst p) = 6
compression_hold (compression.PuttingParent p) = 5
compression_hold (compression.PuttingLast p) = 4
compression_hold (compression.Retiring at decision) = 3
compression_hold (compression.OpeningRight at decision) = 3
compression_hold (compression.OpeningLeft at decision) = 2
compression_hold (compression.OpeningParent x decision) = 1

abbrev pub write_hold : WriteStage → ℕ
write_hold write.New = 0
write_hold (write.Coming a) = approach_hold 6 a
write_hold (write.Keeping x there) = 1
write_hold (write.Editing noted c) = edit_hold c
write_hold (write.Ending r) = 0
write_hold (write.Over r) = 0

abbrev pub post_hold : PostStage → ℕ
post_hold post.New = 0
post_hold (post.Coming a) = approach_hold 7 a
post_hold (post.Growing g) = growth_hold g
post_hold (post.Walking w) = 6
post_hold (post.Editing c) = edit_hold c
post_hold (post.Staying x r) = 1
post_hold (post.Ending r) = 0
post_hold (post.Over r) = 0

abbrev pub compress_hold : CompressStage → ℕ
compress_hold compress.New = 0
compress_hold (compress.Coming a) = approach_hold 11 a
compress_hold (compress.Compressing c) = compression_hold c
compress_hold (compress.Staying x) = 1
compress_hold (compress.Ending r) = 0
compress_hold (compress.Over r) = 0

abbrev pub lower_hold : LowerStage → ℕ
lower_hold lower.New = 0
lower_hold (lower.Sinking l) = lowering_hold l
lower_hold (lower.Ending r) = 0
lower_hold (lower.Over r) = 0

abbrev pub climb_hold : ClimbStage → ℕ
climb_hold (climb.Writing w) = write_hold w.stage
climb_hold (climb.Posting p) = post_hold p.stage
climb_hold (climb.Ending r) = 0
climb_hold (climb.Over r) = 0

abbrev pub hold_of : Proc → ℕ
hold_of (proc.Find p) = 0
hold_of (proc.Write p) = write_hold p.stage
hold_of (proc.Post p) = post_hold p.stage
hold_of (proc.Part p) = 0
hold_of (proc.Compress p) = compress_hold p.stage
hold_of (proc.Reclaim p) = 0
hold_of (proc.Lower p) = lower_hold p.stage
hold_of (proc.InsertPost p) = climb_hold p.stage

-- it got a page on a walk
abbrev pub IsGot : Seen → Type 0
IsGot (seen.Words c) = Unit {0}
IsGot what = ⊥

-- One turn of a process that holds pages brings it nearer to holding none, but for a missed latch and for a get that leaves it where it was.
abbrev pub Nears : ℕ → Seen → ℕ → Type 0
Nears old what new = (new < old) ⊎ ((new ≤ old) × ((what ≡ seen.Missed) ⊎ IsGot what))
