-- A process that is to take a page reserves for it.
use Rattle.std.proofs.Common.{◌≡◌, IsSome, refl}
use Rattle.bl_proc_steps.specs.declared.acts.Action.TheVariants as act
use Rattle.bl_proc_steps.specs.declared.approach.Approach.{Approach}
use Rattle.bl_proc_steps.specs.declared.approach.Approach.TheVariants as way
use Rattle.bl_proc_steps.specs.declared.edit.Edit.{Edit}
use Rattle.bl_proc_steps.specs.declared.edit.Edit.TheVariants as edit
use Rattle.bl_proc_steps.specs.declared.growth.Growth.{Growth}
use Rattle.bl_proc_steps.specs.declared.growth.Growth.TheVariants as growth
use Rattle.bl_proc_steps.specs.declared.lowering.Lowering.{Lowering}
use Rattle.bl_proc_steps.specs.declared.lowering.Lowering.TheVariants as lowering
use Rattle.bl_proc_steps.specs.Approaches.{approach_next}
use Rattle.bl_proc_steps.specs.Edits.{edit_next, edit_needs}
use Rattle.bl_proc_steps.specs.Growths.{growth_next, growth_needs}
use Rattle.bl_proc_steps.specs.Lowerings.{lowering_next}
use Rattle.bl_rearrange.specs.declared.sides.Side.{Side}
use Rattle.bl_rearrange.specs.declared.sides.Side.TheVariants as side
use Rattle.bl_proc_compress.specs.declared.compression.Puts.{Puts}
use Rattle.bl_proc_compress.specs.declared.compression.Compression.{Compression}
use Rattle.bl_proc_compress.specs.declared.compression.Compression.TheVariants as compression
use Rattle.bl_proc_compress.specs.declared.compress.CompressStage.{CompressStage}
use Rattle.bl_proc_compress.specs.declared.compress.CompressStage.TheVariants as compress
use Rattle.bl_proc_compress.specs.Compressions.{put_of, other, compression_next}
use Rattle.bl_proc_compress.specs.Compresses.{compress_next_in}
use Rattle.bl_proc_writes.specs.declared.writing.WriteStage.{WriteStage}
use Rattle.bl_proc_writes.specs.declared.writing.WriteStage.TheVariants as write
use Rattle.bl_proc_writes.specs.declared.post.PostStage.{PostStage}
use Rattle.bl_proc_writes.specs.declared.post.PostStage.TheVariants as post
use Rattle.bl_proc_writes.specs.declared.insert_post.ClimbStage.{ClimbStage}
use Rattle.bl_proc_writes.specs.declared.insert_post.ClimbStage.TheVariants as climb
use Rattle.bl_proc_writes.specs.Writes.{write_next_in, write_needs_in}
use Rattle.bl_proc_writes.specs.Posts.{post_next_in, post_needs_in}
use Rattle.bl_proc_writes.specs.InsertPosts.{climb_next_in, climb_needs_in}
use Rattle.bl_proc.specs.declared.searching.FindStage.{FindStage}
use Rattle.bl_proc.specs.declared.searching.FindStage.TheVariants as find
use Rattle.bl_proc.specs.declared.parts.PartStage.{PartStage}
use Rattle.bl_proc.specs.declared.parts.PartStage.TheVariants as part
use Rattle.bl_proc.specs.declared.reclaiming.ReclaimStage.{ReclaimStage}
use Rattle.bl_proc.specs.declared.reclaiming.ReclaimStage.TheVariants as reclaim
use Rattle.bl_proc.specs.declared.lowering.LowerStage.{LowerStage}
use Rattle.bl_proc.specs.declared.lowering.LowerStage.TheVariants as lower
use Rattle.bl_proc.specs.Searches.{find_next_in}
use Rattle.bl_proc.specs.Parts.{part_next_in}
use Rattle.bl_proc.specs.Reclaims.{reclaim_next_in}
use Rattle.bl_proc.specs.Lowers.{lower_next_in}
use Rattle.bl_proc.specs.declared.kinds.Proc.{Proc}
use Rattle.bl_proc.specs.declared.kinds.Proc.TheVariants as proc
use Rattle.bl_proc.specs.Processes.{next_of, needs_of}

approach_takes : (a : Approach) → approach_next a ≡ act.Take → ⊥
approach_takes way.Start e = cc
approach_takes (way.At x) e = cc
approach_takes (way.Latching x) e = cc
approach_takes (way.Latched x) e = cc
approach_takes (way.Leaving x to) e = cc

edit_takes : (c : Edit) → edit_next c ≡ act.Take → IsSome (edit_needs c)
edit_takes (edit.Taking full) e = refl
edit_takes old e = absurd (cc e)

growth_takes : (g : Growth) → growth_next g ≡ act.Take → IsSome (growth_needs g)
growth_takes (growth.Taking rise) e = refl
growth_takes old e = absurd (cc e)

put_takes : (sd : Side) (u : Puts) → put_of sd u ≡ act.Take → ⊥
put_takes side.Left u e = cc
put_takes side.Right u e = cc

compression_takes : (c : Compression) → compression_next c ≡ act.Take → ⊥
compression_takes (compression.PuttingFirst u) e = put_takes u.gains u e
compression_takes (compression.PuttingLast u) e = put_takes (other u.gains) u e
compression_takes old e = absurd (cc e)

lowering_takes : (l : Lowering) → lowering_next l ≡ act.Take → ⊥
lowering_takes lowering.Looking e = cc
lowering_takes lowering.LatchingAnchor e = cc
lowering_takes lowering.LatchedAnchor e = cc
lowering_takes (lowering.LatchingTop t) e = cc
lowering_takes (lowering.LatchedTop t) e = cc
lowering_takes (lowering.PuttingAnchor s) e = cc
lowering_takes (lowering.PuttingDead s) e = cc
lowering_takes (lowering.Retiring x) e = cc
lowering_takes (lowering.OpeningTop x what) e = cc
lowering_takes (lowering.OpeningAnchor what) e = cc

write_takes : (a : WriteStage) → write_next_in a ≡ act.Take → IsSome (write_needs_in a)
write_takes (write.Editing noted c) e = edit_takes c e
write_takes (write.Coming a) e = absurd (approach_takes a e)
write_takes old e = absurd (cc e)

post_takes : (a : PostStage) → post_next_in a ≡ act.Take → IsSome (post_needs_in a)
post_takes (post.Editing c) e = edit_takes c e
post_takes (post.Growing g) e = growth_takes g e
post_takes (post.Coming a) e = absurd (approach_takes a e)
post_takes old e = absurd (cc e)

compress_takes : (a : CompressStage) → compress_next_in a ≡ act.Take → ⊥
compress_takes (compress.Compressing c) e = compression_takes c e
compress_takes (compress.Coming a) e = approach_takes a e
compress_takes old e = absurd (cc e)

lower_takes : (a : LowerStage) → lower_next_in a ≡ act.Take → ⊥
lower_takes (lower.Sinking l) e = lowering_takes l e
lower_takes old e = absurd (cc e)

find_takes : (a : FindStage) → find_next_in a ≡ act.Take → ⊥
find_takes find.New e = cc
find_takes (find.Near x) e = cc
find_takes (find.Probing x) e = cc
find_takes (find.Descending d) e = cc
find_takes (find.Ending v) e = cc
find_takes (find.Over v) e = cc

part_takes : (a : PartStage) → part_next_in a ≡ act.Take → ⊥
part_takes part.New e = cc
part_takes (part.Near x) e = cc
part_takes (part.Probing x) e = cc
part_takes (part.Descending d) e = cc
part_takes (part.Ending r) e = cc
part_takes (part.Over r) e = cc

reclaim_takes : (page : _) (a : ReclaimStage) → reclaim_next_in page a ≡ act.Take → ⊥
reclaim_takes page reclaim.Seeing e = cc
reclaim_takes page (reclaim.Looking r) e = cc
reclaim_takes page reclaim.Releasing e = cc
reclaim_takes page (reclaim.Over what) e = cc

climb_takes : (a : ClimbStage) → climb_next_in a ≡ act.Take → IsSome (climb_needs_in a)
climb_takes (climb.Writing w) e = write_takes w.stage e
climb_takes (climb.Posting p) e = post_takes p.stage e
climb_takes old e = absurd (cc e)

pub take_needs : (p : Proc) → next_of p ≡ act.Take → IsSome (needs_of p)
take_needs (proc.Write p) e = write_takes p.stage e
take_needs (proc.Post p) e = post_takes p.stage e
take_needs (proc.InsertPost p) e = climb_takes p.stage e
take_needs (proc.Find p) e = absurd (find_takes p.stage e)
take_needs (proc.Part p) e = absurd (part_takes p.stage e)
take_needs (proc.Compress p) e = absurd (compress_takes p.stage e)
take_needs (proc.Reclaim p) e = absurd (reclaim_takes p.page p.stage e)
take_needs (proc.Lower p) e = absurd (lower_takes p.stage e)
