-- A process reserves only for a take, or for a put.
use Rattle.std.proofs.Common.{IsSome}
use Rattle.std.proofs.lemmas.Bool.{false≢true}
use Rattle.bl_proc_steps.specs.declared.acts.Action.{Action}
use Rattle.bl_proc_steps.specs.declared.acts.Action.TheVariants as act
use Rattle.bl_proc_steps.specs.declared.edit.Edit.{Edit}
use Rattle.bl_proc_steps.specs.declared.edit.Edit.TheVariants as edit
use Rattle.bl_proc_steps.specs.declared.growth.Growth.{Growth}
use Rattle.bl_proc_steps.specs.declared.growth.Growth.TheVariants as growth
use Rattle.bl_proc_steps.specs.Edits.{edit_next, edit_needs}
use Rattle.bl_proc_steps.specs.Growths.{growth_next, growth_needs}
use Rattle.bl_proc_compress.specs.Compressions.{put_of, compression_next, compression_needs}
use Rattle.bl_proc_writes.specs.declared.writing.WriteStage.{WriteStage}
use Rattle.bl_proc_writes.specs.declared.writing.WriteStage.TheVariants as write
use Rattle.bl_proc_writes.specs.declared.post.PostStage.{PostStage}
use Rattle.bl_proc_writes.specs.declared.post.PostStage.TheVariants as post
use Rattle.bl_rearrange.specs.declared.sides.Side.{Side}
use Rattle.bl_rearrange.specs.declared.sides.Side.TheVariants as side
use Rattle.bl_proc_compress.specs.declared.compression.Puts.{Puts}
use Rattle.bl_proc_compress.specs.declared.compression.Compression.{Compression}
use Rattle.bl_proc_compress.specs.declared.compression.Compression.TheVariants.{PuttingFirst}
use Rattle.bl_proc_compress.specs.declared.compress.CompressStage.{CompressStage}
use Rattle.bl_proc_compress.specs.declared.compress.CompressStage.TheVariants as compress
use Rattle.bl_proc.specs.declared.kinds.Proc.{Proc}
use Rattle.bl_proc_steps.specs.declared.lowering.Lowering.{Lowering}
use Rattle.bl_proc_steps.specs.declared.lowering.Lowering.TheVariants as lowering
use Rattle.bl_proc.specs.declared.lowering.LowerStage.{LowerStage}
use Rattle.bl_proc.specs.declared.lowering.LowerStage.TheVariants as lower
use Rattle.bl_proc.specs.declared.kinds.Proc.TheVariants as proc
use Rattle.bl_proc.specs.Processes.{next_of, needs_of}
use Rattle.bl_proc_writes.specs.Writes.{write_next_in, write_needs_in}
use Rattle.bl_proc_writes.specs.Posts.{post_next_in, post_needs_in}
use Rattle.bl_proc_compress.specs.Compresses.{compress_next_in, compress_needs_in}
use Rattle.bl_proc_steps.specs.Lowerings.{lowering_next, lowering_needs}
use Rattle.bl_proc_writes.specs.declared.insert_post.ClimbStage.{ClimbStage}
use Rattle.bl_proc_writes.specs.declared.insert_post.ClimbStage.TheVariants as climb
use Rattle.bl_proc_writes.specs.InsertPosts.{climb_next_in, climb_needs_in}
use Rattle.bl_proc.specs.Lowers.{lower_next_in, lower_needs_in}

abbrev pub Reserves : Action → Type 0
Reserves act.Begin = ⊥
Reserves act.End = ⊥
Reserves (act.Get x) = ⊥
Reserves (act.Put x c) = Unit {0}
Reserves (act.Latch x) = ⊥
Reserves act.Take = Unit {0}
Reserves (act.Open x) = ⊥
Reserves (act.Retire x) = ⊥
Reserves (act.Look p) = ⊥
Reserves (act.See x) = ⊥
Reserves (act.Probe x) = ⊥
Reserves (act.Release x) = ⊥

edit_reserves : (c : Edit) → IsSome (edit_needs c) → Reserves (edit_next c)
edit_reserves (edit.Putting x page) h = tt
edit_reserves (edit.Taking full) h = tt
edit_reserves (edit.PuttingNew p) h = tt
edit_reserves (edit.PuttingOld p) h = tt
edit_reserves (edit.OpeningNew x new s) h = absurd (false≢true h)
edit_reserves (edit.Opening x what) h = absurd (false≢true h)

growth_reserves : (g : Growth) → IsSome (growth_needs g) → Reserves (growth_next g)
growth_reserves (growth.Taking rise) h = tt
growth_reserves (growth.PuttingTop r) h = tt
growth_reserves (growth.PuttingAnchor r) h = tt
growth_reserves old h = absurd (false≢true h)

put_reserves : (sd : Side) (u : Puts) → Reserves (put_of sd u)
put_reserves side.Left u = tt
put_reserves side.Right u = tt

compression_reserves : (c : Compression) → IsSome (compression_needs c) → Reserves (compression_next c)
compression_reserves (PuttingFirst u) h = put_reserves u.gains u
compression_reserves old h = absurd (false≢true h)

write_reserves : (a : WriteStage) → IsSome (write_needs_in a) → Reserves (write_next_in a)
write_reserves (write.Editing noted c) h = edit_reserves c h
write_reserves old h = absurd (false≢true h)

post_reserves : (a : PostStage) → IsSome (post_needs_in a) → Reserves (post_next_in a)
post_reserves (post.Growing g) h = growth_reserves g h
post_reserves (post.Editing c) h = edit_reserves c h
post_reserves old h = absurd (false≢true h)

compress_reserves : (a : CompressStage) → IsSome (compress_needs_in a) → Reserves (compress_next_in a)
compress_reserves (compress.Compressing c) h = compression_reserves c h
compress_reserves old h = absurd (false≢true h)

lowering_reserves : (l : Lowering) → IsSome (lowering_needs l) → Reserves (lowering_next l)
lowering_reserves (lowering.PuttingAnchor s) h = tt
lowering_reserves old h = absurd (false≢true h)

lower_reserves : (a : LowerStage) → IsSome (lower_needs_in a) → Reserves (lower_next_in a)
lower_reserves (lower.Sinking l) h = lowering_reserves l h
lower_reserves old h = absurd (false≢true h)

climb_reserves : (a : ClimbStage) → IsSome (climb_needs_in a) → Reserves (climb_next_in a)
climb_reserves (climb.Writing w) h = write_reserves w.stage h
climb_reserves (climb.Posting p) h = post_reserves p.stage h
climb_reserves old h = absurd (false≢true h)

pub reserves : (p : Proc) → IsSome (needs_of p) → Reserves (next_of p)
reserves (proc.Write p) h = write_reserves p.stage h
reserves (proc.Post p) h = post_reserves p.stage h
reserves (proc.Compress p) h = compress_reserves p.stage h
reserves (proc.Lower p) h = lower_reserves p.stage h
reserves (proc.InsertPost p) h = climb_reserves p.stage h
reserves old h = absurd (false≢true h)
