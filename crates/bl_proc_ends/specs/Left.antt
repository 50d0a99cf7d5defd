-- How many turns a process has left, if no page is put any more and no latch is missed. A process that releases pages
-- is not meant: it looks at each other process once.
use Rattle.std.specs.Prelude.{◌≡◌, ◌≢◌, ◌⊎◌, ℕ, ◌+◌, ◌*◌, ◌<◌, true}
use Rattle.bl_page.specs.declared.page.Page.{Page}
use Rattle.bl_page.specs.Nodes.{roots_of}
use Rattle.bl_proc_steps.specs.declared.approach.Approach.{Approach}
use Rattle.bl_proc_steps.specs.declared.descent.Descent.TheVariants.{AtAnchor, At}
use Rattle.bl_proc_steps.specs.declared.edit.Edit.{Edit}
use Rattle.bl_proc_steps.specs.declared.edit.Edit.TheVariants as edit
use Rattle.bl_proc_steps.specs.declared.edit.Outcome.TheVariants as outcome
use Rattle.bl_proc_steps.specs.declared.growth.Growth.{Growth}
use Rattle.bl_proc_steps.specs.declared.growth.Growth.TheVariants as growth
use Rattle.bl_proc_steps.specs.declared.lowering.Lowering.{Lowering}
use Rattle.bl_proc_steps.specs.declared.lowering.Lowering.TheVariants as lowering
use Rattle.bl_proc_compress.specs.declared.compression.Compression.{Compression}
use Rattle.bl_proc_compress.specs.declared.compression.Compression.TheVariants as compression
use Rattle.bl_proc_compress.specs.declared.compression.Decision.TheVariants.{Lost}
use Rattle.bl_proc_compress.specs.declared.compress.CompressStage.{CompressStage}
use Rattle.bl_proc_compress.specs.declared.compress.CompressStage.TheVariants as compress
use Rattle.bl_proc_writes.specs.declared.writing.WriteStage.{WriteStage}
use Rattle.bl_proc_writes.specs.declared.writing.WriteStage.TheVariants as write
use Rattle.bl_proc_writes.specs.declared.post.PostReply.{PostReply}
use Rattle.bl_proc_writes.specs.declared.post.PostReply.TheVariants as listed
use Rattle.bl_proc_writes.specs.declared.post.PostStage.{PostStage}
use Rattle.bl_proc_writes.specs.declared.post.PostStage.TheVariants as post
use Rattle.bl_proc_writes.specs.declared.insert_post.ClimbStage.{ClimbStage}
use Rattle.bl_proc_writes.specs.declared.insert_post.ClimbStage.TheVariants as climb
use Rattle.bl_proc.specs.declared.searching.FindStage.{FindStage}
use Rattle.bl_proc.specs.declared.searching.FindStage.TheVariants as find
use Rattle.bl_proc.specs.declared.parts.PartStage.{PartStage}
use Rattle.bl_proc.specs.declared.parts.PartStage.TheVariants as part
use Rattle.bl_proc.specs.declared.lowering.LowerStage.{LowerStage}
use Rattle.bl_proc.specs.declared.lowering.LowerStage.TheVariants as lower
use Rattle.bl_proc.specs.declared.kinds.Proc.{Proc}
use Rattle.bl_proc.specs.declared.kinds.Proc.TheVariants as proc
use Rattle.bl_proc_progress.specs.Holds.{edit_hold, compression_hold}
use Rattle.bl_proc_progress.specs.Ways.{IsLeft, WayLeft}

-- as many as any process has left, in so many pages
abbrev pub most_turns : ℕ → ℕ
most_turns size = 8 * size + 40

-- a way, and so many more
pub record IsOnWay (contents : ℕ → Page) (key : ℕ) (a : Approach) (more turns : ℕ) : Type 0 where
  pub way : ℕ
  pub left : WayLeft contents key a way
  pub count : turns ≡ way + more

abbrev pub find_left : ℕ → (ℕ → Page) → ℕ → FindStage → ℕ → Type 0
find_left size contents key find.New turns = turns ≡ most_turns size
find_left size contents key (find.Near x) turns = turns ≡ most_turns size
find_left size contents key (find.Probing x) turns = turns + 1 ≡ most_turns size
find_left size contents key (find.Descending d) turns = IsLeft contents key d 1 0 turns
find_left size contents key (find.Ending value) turns = turns ≡ 1
find_left size contents key (find.Over value) turns = turns ≡ 0

abbrev pub part_left : ℕ → (ℕ → Page) → ℕ → PartStage → ℕ → Type 0
part_left size contents from part.New turns = turns ≡ most_turns size
part_left size contents from (part.Near x) turns = turns ≡ most_turns size
part_left size contents from (part.Probing x) turns = turns + 1 ≡ most_turns size
part_left size contents from (part.Descending d) turns = IsLeft contents from d 1 0 turns
part_left size contents from (part.Ending r) turns = turns ≡ 1
part_left size contents from (part.Over r) turns = turns ≡ 0

abbrev pub write_left : ℕ → (ℕ → Page) → ℕ → WriteStage → ℕ → Type 0
write_left size contents key write.New turns = turns ≡ most_turns size
write_left size contents key (write.Coming a) turns = IsOnWay contents key a 12 turns
write_left size contents key (write.Keeping x there) turns = turns ≡ 2
write_left size contents key (write.Editing noted c) turns = turns ≡ edit_hold c + 1
write_left size contents key (write.Ending r) turns = turns ≡ 1
write_left size contents key (write.Over r) turns = turns ≡ 0

-- the anchor has the number of levels for which a new one is made
pub record MayRise (contents : ℕ → Page) (level : ℕ) : Type 0 where
  pub levels : (roots_of (contents 0)).levels ≡ level
  pub room : level < 12

-- a growth that will be done has few turns left until its put; after that, or where it will not be done, the way begins again
abbrev pub rises_or : (ℕ → Page) → ℕ → ℕ → ℕ → ℕ → ℕ → Type 0
rises_or contents level key few more turns = (MayRise contents level × (turns ≡ few)) ⊎ ((¬ MayRise contents level) × IsLeft contents key AtAnchor more 0 turns)

abbrev pub growth_left : (ℕ → Page) → ℕ → ℕ → Growth → ℕ → Type 0
growth_left contents level key growth.Latching turns = rises_or contents level key 8 28 turns
growth_left contents level key growth.Latched turns = rises_or contents level key 7 27 turns
growth_left contents level key (growth.Taking rise) turns = turns ≡ 6
growth_left contents level key (growth.PuttingTop r) turns = turns ≡ 5
growth_left contents level key (growth.PuttingAnchor r) turns = turns ≡ 4
growth_left contents level key (growth.OpeningTop x) turns = IsLeft contents key AtAnchor 26 0 turns
growth_left contents level key growth.OpeningGrown turns = IsLeft contents key AtAnchor 25 0 turns
growth_left contents level key growth.OpeningRefused turns = turns ≡ 2

-- it leaves its parent as it is
abbrev pub IsStay : PostReply → Type 0
IsStay listed.Already = Unit {0}
IsStay listed.Stale = Unit {0}
IsStay r = ⊥

abbrev pub post_left : ℕ → (ℕ → Page) → ℕ → ℕ → PostStage → ℕ → Type 0
post_left size contents level key post.New turns = turns ≡ most_turns size
post_left size contents level key (post.Coming a) turns = IsOnWay contents key a 20 turns
post_left size contents level key (post.Growing g) turns = growth_left contents level key g turns
post_left size contents level key (post.Walking w) turns = IsLeft contents key (At w.child) 20 0 turns
post_left size contents level key (post.Editing c) turns = turns ≡ edit_hold c + 1
post_left size contents level key (post.Staying x r) turns = IsStay r × (turns ≡ 2)
post_left size contents level key (post.Ending r) turns = turns ≡ 1
post_left size contents level key (post.Over r) turns = turns ≡ 0

-- it has not found that it is to begin again
abbrev pub IsFound : Compression → Type 0
IsFound (compression.LatchingLeft f) = Unit {0}
IsFound (compression.LatchedLeft f) = Unit {0}
IsFound (compression.LatchingRight f c) = Unit {0}
IsFound (compression.LatchedRight f c) = Unit {0}
IsFound (compression.PuttingFirst p) = p.decision ≢ Lost
IsFound (compression.PuttingParent p) = p.decision ≢ Lost
IsFound (compression.PuttingLast p) = p.decision ≢ Lost
IsFound (compression.Retiring at decision) = decision ≢ Lost
IsFound (compression.OpeningRight at decision) = decision ≢ Lost
IsFound (compression.OpeningLeft at decision) = decision ≢ Lost
IsFound (compression.OpeningParent x decision) = decision ≢ Lost

abbrev pub compress_left : ℕ → (ℕ → Page) → ℕ → CompressStage → ℕ → Type 0
compress_left size contents key compress.New turns = turns ≡ most_turns size
compress_left size contents key (compress.Coming a) turns = IsOnWay contents key a 16 turns
compress_left size contents key (compress.Compressing c) turns = IsFound c × (turns ≡ compression_hold c + 1)
compress_left size contents key (compress.Staying x) turns = turns ≡ 2
compress_left size contents key (compress.Ending r) turns = turns ≡ 1
compress_left size contents key (compress.Over r) turns = turns ≡ 0

abbrev pub lowering_turns : Lowering → ℕ
lowering_turns lowering.Looking = 10
lowering_turns lowering.LatchingAnchor = 9
lowering_turns lowering.LatchedAnchor = 8
lowering_turns (lowering.LatchingTop t) = 7
lowering_turns (lowering.LatchedTop t) = 6
lowering_turns (lowering.PuttingAnchor s) = 5
lowering_turns (lowering.PuttingDead s) = 4
lowering_turns (lowering.Retiring x) = 3
lowering_turns (lowering.OpeningTop x what) = 3
lowering_turns (lowering.OpeningAnchor what) = 2

abbrev pub lower_left : ℕ → LowerStage → ℕ → Type 0
lower_left size lower.New turns = turns ≡ most_turns size
lower_left size (lower.Sinking l) turns = turns ≡ lowering_turns l
lower_left size (lower.Ending r) turns = turns ≡ 1
lower_left size (lower.Over r) turns = turns ≡ 0

-- Of an insertion that posts what it splits: when the old page of a split has been put, the next post is to begin.
abbrev pub climb_edit : ℕ → Edit → ℕ
climb_edit size (edit.OpeningNew x new separator) = 8 * size + 36
climb_edit size (edit.Opening x (outcome.SplitAt separator)) = 8 * size + 35
climb_edit size c = edit_hold c + 1

abbrev pub writing_left : ℕ → (ℕ → Page) → ℕ → WriteStage → ℕ → Type 0
writing_left size contents key (write.Editing noted c) turns = turns ≡ climb_edit size c
writing_left size contents key stage turns = write_left size contents key stage turns

abbrev pub posting_left : ℕ → (ℕ → Page) → ℕ → ℕ → PostStage → ℕ → Type 0
posting_left size contents level key (post.Editing c) turns = turns ≡ climb_edit size c
posting_left size contents level key stage turns = post_left size contents level key stage turns

abbrev pub climb_left : ℕ → (ℕ → Page) → ClimbStage → ℕ → Type 0
climb_left size contents (climb.Writing w) turns = writing_left size contents w.key w.stage turns
climb_left size contents (climb.Posting p) turns = posting_left size contents p.level p.key p.stage turns
climb_left size contents (climb.Ending r) turns = turns ≡ 1
climb_left size contents (climb.Over r) turns = turns ≡ 0

abbrev pub TurnsLeft : ℕ → (ℕ → Page) → Proc → ℕ → Type 0
TurnsLeft size contents (proc.Find p) turns = find_left size contents p.key p.stage turns
TurnsLeft size contents (proc.Write p) turns = write_left size contents p.key p.stage turns
TurnsLeft size contents (proc.Post p) turns = post_left size contents p.level p.key p.stage turns
TurnsLeft size contents (proc.Part p) turns = part_left size contents p.from.key p.stage turns
TurnsLeft size contents (proc.Compress p) turns = (p.waits ≡ true) × compress_left size contents p.key p.stage turns
TurnsLeft size contents (proc.Reclaim p) turns = ⊥
TurnsLeft size contents (proc.Lower p) turns = lower_left size p.stage turns
TurnsLeft size contents (proc.InsertPost p) turns = climb_left size contents p.stage turns

-- What the states of a process that began as it should say besides: a post that leaves its parent as it is has nothing to enter, and a
-- compression waits, and has not found that it is to begin again. Each turn keeps that.
abbrev pub IsStaying : PostStage → Type 0
IsStaying (post.Staying x r) = IsStay r
IsStaying stage = Unit {0}

abbrev pub IsCompressing : CompressStage → Type 0
IsCompressing (compress.Compressing c) = IsFound c
IsCompressing stage = Unit {0}

abbrev pub IsClimbing : ClimbStage → Type 0
IsClimbing (climb.Posting p) = IsStaying p.stage
IsClimbing stage = Unit {0}

abbrev pub IsMeant : Proc → Type 0
IsMeant (proc.Find p) = Unit {0}
IsMeant (proc.Write p) = Unit {0}
IsMeant (proc.Post p) = IsStaying p.stage
IsMeant (proc.Part p) = Unit {0}
IsMeant (proc.Compress p) = (p.waits ≡ true) × IsCompressing p.stage
IsMeant (proc.Reclaim p) = ⊥
IsMeant (proc.Lower p) = Unit {0}
IsMeant (proc.InsertPost p) = IsClimbing p.stage
