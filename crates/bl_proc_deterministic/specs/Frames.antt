-- What a process has reserved, what it asks for, and what does not change from one action to the next.
use Rattle.std.specs.Prelude.{◌≡◌, ◌≢◌, ◌≤◌, ℕ, suc, Option, Some, None}
use Rattle.bl_model.specs.declared.operation.Op.{Op}
use Rattle.bl_model.specs.declared.operation.Op.TheVariants as op
use Rattle.bl_model.specs.Writes.{write_op}
use Rattle.bl_proc_steps.specs.declared.acts.Action.{Action}
use Rattle.bl_proc_steps.specs.declared.acts.Action.TheVariants as act
use Rattle.bl_proc_steps.specs.declared.acts.Seen.{Seen}
use Rattle.bl_proc_steps.specs.declared.acts.Seen.TheVariants as seen
use Rattle.bl_proc_steps.specs.declared.edit.Edit.{Edit}
use Rattle.bl_proc_steps.specs.declared.edit.Edit.TheVariants as edit
use Rattle.bl_proc_steps.specs.declared.growth.Growth.{Growth}
use Rattle.bl_proc_steps.specs.declared.growth.Growth.TheVariants as growth
use Rattle.bl_proc_steps.specs.declared.lowering.Lowering.{Lowering}
use Rattle.bl_proc_steps.specs.declared.lowering.Lowering.TheVariants as lowering
use Rattle.bl_proc_writes.specs.declared.writing.WriteStage.{WriteStage}
use Rattle.bl_proc_writes.specs.declared.writing.WriteStage.TheVariants as write
use Rattle.bl_proc_writes.specs.declared.post.PostStage.{PostStage}
use Rattle.bl_proc_writes.specs.declared.post.PostStage.TheVariants as post
use Rattle.bl_proc_compress.specs.declared.compression.Compression.{Compression}
use Rattle.bl_proc_compress.specs.declared.compression.Compression.TheVariants as compression
use Rattle.bl_proc_compress.specs.declared.compress.CompressStage.{CompressStage}
use Rattle.bl_proc_compress.specs.declared.compress.CompressStage.TheVariants as compress
use Rattle.bl_proc_writes.specs.declared.insert_post.ClimbStage.{ClimbStage}
use Rattle.bl_proc_writes.specs.declared.insert_post.ClimbStage.TheVariants as climb
use Rattle.bl_proc.specs.declared.lowering.LowerStage.{LowerStage}
use Rattle.bl_proc.specs.declared.lowering.LowerStage.TheVariants as lower
use Rattle.bl_proc.specs.declared.kinds.Proc.{Proc}
use Rattle.bl_proc.specs.declared.kinds.Proc.TheVariants as proc
use Rattle.bl_proc.specs.Parts.{part_op}
use Rattle.bl_proc_writes.specs.Placings.{write_of}
use Rattle.bl_proc.specs.Processes.{next_of, needs_of, answer_of}

-- How many frames a process has reserved and not yet put.

abbrev pub edit_frames : Edit → ℕ
edit_frames (edit.Putting x page) = 0
edit_frames (edit.Taking full) = 0
edit_frames (edit.PuttingNew p) = 2
edit_frames (edit.PuttingOld p) = 1
edit_frames (edit.OpeningNew x new separator) = 0
edit_frames (edit.Opening x what) = 0

abbrev pub growth_frames : Growth → ℕ
growth_frames growth.Latching = 0
growth_frames growth.Latched = 0
growth_frames (growth.Taking rise) = 0
growth_frames (growth.PuttingTop r) = 2
growth_frames (growth.PuttingAnchor r) = 1
growth_frames (growth.OpeningTop x) = 0
growth_frames growth.OpeningGrown = 0
growth_frames growth.OpeningRefused = 0

abbrev pub write_frames : WriteStage → ℕ
write_frames write.New = 0
write_frames (write.Coming a) = 0
write_frames (write.Keeping x there) = 0
write_frames (write.Editing noted c) = edit_frames c
write_frames (write.Ending r) = 0
write_frames (write.Over r) = 0

abbrev pub post_frames : PostStage → ℕ
post_frames post.New = 0
post_frames (post.Coming a) = 0
post_frames (post.Growing g) = growth_frames g
post_frames (post.Walking w) = 0
post_frames (post.Editing c) = edit_frames c
post_frames (post.Staying x r) = 0
post_frames (post.Ending r) = 0
post_frames (post.Over r) = 0

-- the puts of a compression that are still to come, once it has reserved for all three
abbrev pub compression_frames : Compression → ℕ
compression_frames (compression.LatchingLeft f) = 0
compression_frames (compression.LatchedLeft f) = 0
compression_frames (compression.LatchingRight f c) = 0
compression_frames (compression.LatchedRight f c) = 0
compression_frames (compression.PuttingFirst p) = 0
compression_frames (compression.PuttingParent p) = 2
compression_frames (compression.PuttingLast p) = 1
compression_frames (compression.Retiring t decision) = 0
compression_frames (compression.OpeningRight t decision) = 0
compression_frames (compression.OpeningLeft t decision) = 0
compression_frames (compression.OpeningParent x decision) = 0

abbrev pub compress_frames : CompressStage → ℕ
compress_frames compress.New = 0
compress_frames (compress.Coming a) = 0
compress_frames (compress.Compressing c) = compression_frames c
compress_frames (compress.Staying x) = 0
compress_frames (compress.Ending r) = 0
compress_frames (compress.Over r) = 0

abbrev pub lowering_frames : Lowering → ℕ
lowering_frames lowering.Looking = 0
lowering_frames lowering.LatchingAnchor = 0
lowering_frames lowering.LatchedAnchor = 0
lowering_frames (lowering.LatchingTop t) = 0
lowering_frames (lowering.LatchedTop t) = 0
lowering_frames (lowering.PuttingAnchor s) = 0
lowering_frames (lowering.PuttingDead s) = 1
lowering_frames (lowering.Retiring x) = 0
lowering_frames (lowering.OpeningTop x what) = 0
lowering_frames (lowering.OpeningAnchor what) = 0

abbrev pub lower_frames : LowerStage → ℕ
lower_frames lower.New = 0
lower_frames (lower.Sinking l) = lowering_frames l
lower_frames (lower.Ending r) = 0
lower_frames (lower.Over r) = 0

abbrev pub climb_frames : ClimbStage → ℕ
climb_frames (climb.Writing w) = write_frames w.stage
climb_frames (climb.Posting p) = post_frames p.stage
climb_frames (climb.Ending r) = 0
climb_frames (climb.Over r) = 0

abbrev pub frames_wanted : Proc → ℕ
frames_wanted (proc.Find p) = 0
frames_wanted (proc.Write p) = write_frames p.stage
frames_wanted (proc.Post p) = post_frames p.stage
frames_wanted (proc.Part p) = 0
frames_wanted (proc.Compress p) = compress_frames p.stage
frames_wanted (proc.Reclaim p) = 0
frames_wanted (proc.Lower p) = lower_frames p.stage
frames_wanted (proc.InsertPost p) = climb_frames p.stage

-- the operation that a process carries out, if it has one
abbrev pub op_of : Proc → Option Op
op_of (proc.Find p) = Some (op.Find p.key)
op_of (proc.Write p) = Some (write_op p.key p.write)
op_of (proc.Post p) = None
op_of (proc.Part p) = Some (part_op p.from)
op_of (proc.Compress p) = None
op_of (proc.Reclaim p) = None
op_of (proc.Lower p) = None
op_of (proc.InsertPost p) = Some (write_op p.key (write_of p.placing))

-- the level and the key of a post or a compression
abbrev pub work_of : Proc → Option (ℕ × ℕ)
work_of (proc.Find p) = None
work_of (proc.Write p) = None
work_of (proc.Post p) = Some (p.level, p.key)
work_of (proc.Part p) = None
work_of (proc.Compress p) = Some (p.level, p.key)
work_of (proc.Reclaim p) = None
work_of (proc.Lower p) = None
work_of (proc.InsertPost p) = None

-- A process that has so many frames: a put asks for some, up to three, where it has none, and a take for a page and two
-- frames. An index has sweeps for those that look or release, and no value of a part, which alone probes.
abbrev pub Wants : Action → Option (ℕ × ℕ) → ℕ → Type 0
Wants (act.Put x page) None frames = frames ≢ 0
Wants (act.Put x page) (Some ask) frames = (frames ≡ 0) × (ask.0 ≡ 0) × (1 ≤ ask.1) × (ask.1 ≤ 3)
Wants act.Take (Some ask) frames = (frames ≡ 0) × (ask.0 ≡ 1) × (ask.1 ≡ 2)
Wants act.Take None frames = ⊥
Wants act.Begin needs frames = frames ≡ 0
Wants act.End needs frames = frames ≡ 0
Wants (act.Get x) needs frames = frames ≡ 0
Wants (act.Latch x) needs frames = frames ≡ 0
Wants (act.Open x) needs frames = frames ≡ 0
Wants (act.Retire x) needs frames = frames ≡ 0
Wants (act.Look p) needs frames = ⊥
Wants (act.See x) needs frames = ⊥
Wants (act.Probe x) needs frames = ⊥
Wants (act.Release x) needs frames = ⊥

-- How many frames are left then.
abbrev pub Leaves : Action → Option (ℕ × ℕ) → Seen → ℕ → ℕ → Type 0
Leaves (act.Put x page) None what before after = before ≡ suc after
Leaves (act.Put x page) (Some ask) seen.Done before after = suc after ≡ ask.1
Leaves (act.Put x page) (Some ask) what before after = after ≡ 0
Leaves act.Take needs (seen.Took y) before after = after ≡ 2
Leaves act.Take needs what before after = after ≡ 0
Leaves act.Begin needs what before after = after ≡ 0
Leaves act.End needs what before after = after ≡ 0
Leaves (act.Get x) needs what before after = after ≡ 0
Leaves (act.Latch x) needs what before after = after ≡ 0
Leaves (act.Open x) needs what before after = after ≡ 0
Leaves (act.Retire x) needs what before after = after ≡ 0
Leaves (act.Look p) needs what before after = Unit {0}
Leaves (act.See x) needs what before after = Unit {0}
Leaves (act.Probe x) needs what before after = after ≡ 0
Leaves (act.Release x) needs what before after = Unit {0}

-- what follows when a process goes on
pub record Follows (old : Proc) (what : Seen) (new : Proc) : Type 0 where
  pub frames : Leaves (next_of old) (needs_of old) what (frames_wanted old) (frames_wanted new)
  pub begun : next_of new ≢ act.Begin
  pub op : op_of new ≡ op_of old
  pub work : work_of new ≡ work_of old
  pub running : next_of old ≢ act.End → answer_of new ≡ None
