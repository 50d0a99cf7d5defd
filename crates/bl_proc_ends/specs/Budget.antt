-- How many puts a process may still do. New top levels are counted by the levels that the anchor may still get, two puts for each:
-- between the two puts of one its process counts one less, and a lowering counts two more until it has taken a level away.
use Rattle.std.specs.Prelude.{ℕ, ◌+◌, ◌*◌, ◌-◌}
use Rattle.bl_page.specs.declared.page.Page.{Page}
use Rattle.bl_page.specs.Nodes.{roots_of}
use Rattle.bl_proc_steps.specs.declared.edit.Edit.{Edit}
use Rattle.bl_proc_steps.specs.declared.edit.Edit.TheVariants as edit
use Rattle.bl_proc_steps.specs.declared.growth.Growth.{Growth}
use Rattle.bl_proc_steps.specs.declared.growth.Growth.TheVariants as growth
use Rattle.bl_proc_steps.specs.declared.lowering.Lowering.{Lowering}
use Rattle.bl_proc_steps.specs.declared.lowering.Lowering.TheVariants as lowering
use Rattle.bl_proc_compress.specs.declared.compression.Decision.{Decision}
use Rattle.bl_proc_compress.specs.declared.compression.Decision.TheVariants as decision
use Rattle.bl_proc_compress.specs.declared.compression.Compression.{Compression}
use Rattle.bl_proc_compress.specs.declared.compression.Compression.TheVariants as compression
use Rattle.bl_proc_compress.specs.declared.compress.CompressStage.{CompressStage}
use Rattle.bl_proc_compress.specs.declared.compress.CompressStage.TheVariants as compress
use Rattle.bl_proc_writes.specs.declared.writing.WriteStage.{WriteStage}
use Rattle.bl_proc_writes.specs.declared.writing.WriteStage.TheVariants as write
use Rattle.bl_proc_writes.specs.declared.post.PostStage.{PostStage}
use Rattle.bl_proc_writes.specs.declared.post.PostStage.TheVariants as post
use Rattle.bl_proc_writes.specs.declared.insert_post.ClimbStage.{ClimbStage}
use Rattle.bl_proc_writes.specs.declared.insert_post.ClimbStage.TheVariants as climb
use Rattle.bl_proc.specs.declared.lowering.LowerStage.{LowerStage}
use Rattle.bl_proc.specs.declared.lowering.LowerStage.TheVariants as lower
use Rattle.bl_proc.specs.declared.kinds.Proc.{Proc}
use Rattle.bl_proc.specs.declared.kinds.Proc.TheVariants as proc

abbrev pub edit_puts : Edit → ℕ
edit_puts (edit.Putting x page) = 1
edit_puts (edit.Taking full) = 2
edit_puts (edit.PuttingNew p) = 2
edit_puts (edit.PuttingOld p) = 1
edit_puts (edit.OpeningNew x new separator) = 0
edit_puts (edit.Opening x o) = 0

-- beside the entry that comes after
abbrev pub growth_puts : Growth → ℕ
growth_puts growth.Latching = 2
growth_puts growth.Latched = 2
growth_puts (growth.Taking rise) = 2
growth_puts (growth.PuttingTop r) = 2
growth_puts (growth.PuttingAnchor r) = 1
growth_puts (growth.OpeningTop x) = 2
growth_puts growth.OpeningGrown = 2
growth_puts growth.OpeningRefused = 2

abbrev pub lowering_puts : Lowering → ℕ
lowering_puts lowering.Looking = 4
lowering_puts lowering.LatchingAnchor = 4
lowering_puts lowering.LatchedAnchor = 4
lowering_puts (lowering.LatchingTop t) = 4
lowering_puts (lowering.LatchedTop t) = 4
lowering_puts (lowering.PuttingAnchor s) = 4
lowering_puts (lowering.PuttingDead s) = 1
lowering_puts (lowering.Retiring x) = 0
lowering_puts (lowering.OpeningTop x what) = 0
lowering_puts (lowering.OpeningAnchor what) = 0

-- one that is to begin again is to do all
abbrev pub decision_puts : Decision → ℕ
decision_puts (decision.Merged h) = 0
decision_puts decision.Evened = 0
decision_puts decision.Enough = 0
decision_puts (decision.Unposted h) = 0
decision_puts decision.Refused = 0
decision_puts decision.Lost = 3

abbrev pub compression_puts : Compression → ℕ
compression_puts (compression.LatchingLeft f) = 3
compression_puts (compression.LatchedLeft f) = 3
compression_puts (compression.LatchingRight f c) = 3
compression_puts (compression.LatchedRight f c) = 3
compression_puts (compression.PuttingFirst p) = 3 + decision_puts p.decision
compression_puts (compression.PuttingParent p) = 2 + decision_puts p.decision
compression_puts (compression.PuttingLast p) = 1 + decision_puts p.decision
compression_puts (compression.Retiring at what) = decision_puts what
compression_puts (compression.OpeningRight at what) = decision_puts what
compression_puts (compression.OpeningLeft at what) = decision_puts what
compression_puts (compression.OpeningParent x what) = decision_puts what

abbrev pub write_puts : WriteStage → ℕ
write_puts write.New = 2
write_puts (write.Coming a) = 2
write_puts (write.Keeping x there) = 0
write_puts (write.Editing noted c) = edit_puts c
write_puts (write.Ending r) = 0
write_puts (write.Over r) = 0

abbrev pub post_puts : PostStage → ℕ
post_puts post.New = 2
post_puts (post.Coming a) = 2
post_puts (post.Growing g) = growth_puts g
post_puts (post.Walking w) = 2
post_puts (post.Editing c) = edit_puts c
post_puts (post.Staying x r) = 2
post_puts (post.Ending r) = 0
post_puts (post.Over r) = 0

abbrev pub compress_puts : CompressStage → ℕ
compress_puts compress.New = 3
compress_puts (compress.Coming a) = 3
compress_puts (compress.Compressing c) = compression_puts c
compress_puts (compress.Staying x) = 0
compress_puts (compress.Ending r) = 0
compress_puts (compress.Over r) = 0

abbrev pub lower_puts : LowerStage → ℕ
lower_puts lower.New = 4
lower_puts (lower.Sinking l) = lowering_puts l
lower_puts (lower.Ending r) = 0
lower_puts (lower.Over r) = 0

-- an insertion with posts may post on each level from there on
abbrev pub climb_puts : ClimbStage → ℕ
climb_puts (climb.Writing w) = write_puts w.stage + 24
climb_puts (climb.Posting p) = post_puts p.stage + 2 * (12 - p.level)
climb_puts (climb.Ending r) = 0
climb_puts (climb.Over r) = 0

abbrev pub puts_of : Proc → ℕ
puts_of (proc.Find p) = 0
puts_of (proc.Write p) = write_puts p.stage
puts_of (proc.Post p) = post_puts p.stage
puts_of (proc.Part p) = 0
puts_of (proc.Compress p) = compress_puts p.stage
puts_of (proc.Reclaim p) = 0
puts_of (proc.Lower p) = lower_puts p.stage
puts_of (proc.InsertPost p) = climb_puts p.stage

-- the levels that the anchor may still get, twice
abbrev pub room_above : (ℕ → Page) → ℕ
room_above contents = 2 * (12 - (roots_of (contents 0)).levels)

-- it is to put the anchor of a new top level, or the one without the top level
abbrev pub IsRaisingIn : PostStage → Type 0
IsRaisingIn (post.Growing (growth.PuttingAnchor r)) = Unit {0}
IsRaisingIn stage = ⊥

abbrev pub IsRaisingUp : ClimbStage → Type 0
IsRaisingUp (climb.Posting p) = IsRaisingIn p.stage
IsRaisingUp stage = ⊥

abbrev pub IsRaising : Proc → Type 0
IsRaising (proc.Post p) = IsRaisingIn p.stage
IsRaising (proc.InsertPost p) = IsRaisingUp p.stage
IsRaising p = ⊥

abbrev pub IsSinkingIn : LowerStage → Type 0
IsSinkingIn (lower.Sinking (lowering.PuttingAnchor s)) = Unit {0}
IsSinkingIn stage = ⊥

abbrev pub IsSinking : Proc → Type 0
IsSinking (proc.Lower p) = IsSinkingIn p.stage
IsSinking p = ⊥
