-- Only a process that is to release a page looks at an owner or a process, or releases.
use Rattle.std.proofs.Common.{ℕ, ◌≡◌, None, Some, refl}
use Rattle.bl_proc_steps.specs.declared.acts.Action.{Action}
use Rattle.bl_proc_steps.specs.declared.acts.Action.TheVariants as act
use Rattle.bl_proc_steps.specs.declared.acts.Seen.{Seen}
use Rattle.bl_proc_steps.specs.declared.approach.Approach.{Approach}
use Rattle.bl_proc_steps.specs.declared.approach.Approach.TheVariants as way
use Rattle.bl_proc_steps.specs.declared.edit.Edit.{Edit}
use Rattle.bl_proc_steps.specs.declared.edit.Edit.TheVariants as edit
use Rattle.bl_proc_steps.specs.declared.growth.Growth.{Growth}
use Rattle.bl_proc_steps.specs.declared.growth.Growth.TheVariants as growth
use Rattle.bl_proc_steps.specs.Approaches.{approach_next}
use Rattle.bl_proc_steps.specs.Edits.{edit_next}
use Rattle.bl_proc_steps.specs.Growths.{growth_next}
use Rattle.bl_proc_compress.specs.Compressions.{put_of, other, compression_next}
use Rattle.bl_proc.specs.declared.searching.FindStage.{FindStage}
use Rattle.bl_proc.specs.declared.searching.FindStage.TheVariants as find
use Rattle.bl_proc.specs.declared.parts.PartStage.{PartStage}
use Rattle.bl_proc.specs.declared.parts.PartStage.TheVariants as part
use Rattle.bl_proc_writes.specs.declared.writing.WriteStage.{WriteStage}
use Rattle.bl_proc_writes.specs.declared.writing.WriteStage.TheVariants as write
use Rattle.bl_proc_writes.specs.declared.post.PostStage.{PostStage}
use Rattle.bl_proc_writes.specs.declared.post.PostStage.TheVariants as post
use Rattle.bl_rearrange.specs.declared.sides.Side.{Side}
use Rattle.bl_rearrange.specs.declared.sides.Side.TheVariants as side
use Rattle.bl_proc_compress.specs.declared.compression.Puts.{Puts}
use Rattle.bl_proc_compress.specs.declared.compression.Compression.{Compression}
use Rattle.bl_proc_compress.specs.declared.compression.Compression.TheVariants.{LatchingLeft, LatchedLeft, LatchingRight, LatchedRight, PuttingFirst, PuttingParent, PuttingLast, Retiring, OpeningRight, OpeningLeft, OpeningParent}
use Rattle.bl_proc_compress.specs.declared.compress.CompressStage.{CompressStage}
use Rattle.bl_proc_compress.specs.declared.compress.CompressStage.TheVariants as compress
use Rattle.bl_proc.specs.declared.reclaiming.Reclaim.{Reclaim}
use Rattle.bl_proc.specs.declared.reclaiming.ReclaimStage.{ReclaimStage}
use Rattle.bl_proc.specs.declared.reclaiming.ReclaimStage.TheVariants as reclaim
use Rattle.bl_proc.specs.declared.kinds.Proc.{Proc}
use Rattle.bl_proc_steps.specs.declared.lowering.Lowering.{Lowering}
use Rattle.bl_proc_steps.specs.declared.lowering.Lowering.TheVariants as lowering
use Rattle.bl_proc.specs.declared.lowering.LowerStage.{LowerStage}
use Rattle.bl_proc.specs.declared.lowering.LowerStage.TheVariants as lower
use Rattle.bl_proc.specs.declared.kinds.Proc.TheVariants as proc
use Rattle.bl_proc.specs.Searches.{find_next_in}
use Rattle.bl_proc.specs.Parts.{part_next_in}
use Rattle.bl_proc_writes.specs.Writes.{write_next_in}
use Rattle.bl_proc_writes.specs.Posts.{post_next_in}
use Rattle.bl_proc_compress.specs.Compresses.{compress_next_in}
use Rattle.bl_proc.specs.Reclaims.{reclaim_next_in}
use Rattle.bl_proc_steps.specs.Lowerings.{lowering_next}
use Rattle.bl_proc.specs.Lowers.{lower_next_in}
use Rattle.bl_proc_writes.specs.declared.insert_post.ClimbStage.{ClimbStage}
use Rattle.bl_proc_writes.specs.declared.insert_post.ClimbStage.TheVariants as climb
use Rattle.bl_proc_writes.specs.InsertPosts.{climb_next_in}
use Rattle.bl_proc.specs.Processes.{next_of, Takes}

abbrev pub IsOfTree : Action → Type 0
IsOfTree act.Begin = Unit {0}
IsOfTree act.End = Unit {0}
IsOfTree (act.Get x) = Unit {0}
IsOfTree (act.Put x c) = Unit {0}
IsOfTree (act.Latch x) = Unit {0}
IsOfTree act.Take = Unit {0}
IsOfTree (act.Open x) = Unit {0}
IsOfTree (act.Retire x) = Unit {0}
IsOfTree (act.Look q) = ⊥
IsOfTree (act.See x) = ⊥
IsOfTree (act.Probe x) = Unit {0}
IsOfTree (act.Release x) = ⊥

approach_tree : (a : Approach) → IsOfTree (approach_next a)
approach_tree way.Start = tt
approach_tree (way.At x) = tt
approach_tree (way.Latching x) = tt
approach_tree (way.Latched x) = tt
approach_tree (way.Leaving x None) = tt
approach_tree (way.Leaving x (Some y)) = tt

edit_tree : (a : Edit) → IsOfTree (edit_next a)
edit_tree (edit.Putting x page) = tt
edit_tree (edit.Taking full) = tt
edit_tree (edit.PuttingNew p) = tt
edit_tree (edit.PuttingOld p) = tt
edit_tree (edit.OpeningNew x new s) = tt
edit_tree (edit.Opening x o) = tt

growth_tree : (a : Growth) → IsOfTree (growth_next a)
growth_tree growth.Latching = tt
growth_tree growth.Latched = tt
growth_tree (growth.Taking r) = tt
growth_tree (growth.PuttingTop r) = tt
growth_tree (growth.PuttingAnchor r) = tt
growth_tree (growth.OpeningTop x) = tt
growth_tree growth.OpeningGrown = tt
growth_tree growth.OpeningRefused = tt

put_tree : (sd : Side) (u : Puts) → IsOfTree (put_of sd u)
put_tree side.Left u = tt
put_tree side.Right u = tt

compression_tree : (a : Compression) → IsOfTree (compression_next a)
compression_tree (LatchingLeft f) = tt
compression_tree (LatchedLeft f) = tt
compression_tree (LatchingRight f page) = tt
compression_tree (LatchedRight f page) = tt
compression_tree (PuttingFirst u) = put_tree u.gains u
compression_tree (PuttingParent u) = tt
compression_tree (PuttingLast u) = put_tree (other u.gains) u
compression_tree (Retiring at end) = tt
compression_tree (OpeningRight at end) = tt
compression_tree (OpeningLeft at end) = tt
compression_tree (OpeningParent x end) = tt

find_tree : (a : FindStage) → IsOfTree (find_next_in a)
find_tree find.New = tt
find_tree (find.Near x) = tt
find_tree (find.Probing x) = tt
find_tree (find.Descending d) = tt
find_tree (find.Ending v) = tt
find_tree (find.Over v) = tt

part_tree : (a : PartStage) → IsOfTree (part_next_in a)
part_tree part.New = tt
part_tree (part.Near x) = tt
part_tree (part.Probing x) = tt
part_tree (part.Descending d) = tt
part_tree (part.Ending r) = tt
part_tree (part.Over r) = tt

write_tree : (a : WriteStage) → IsOfTree (write_next_in a)
write_tree write.New = tt
write_tree (write.Coming a) = approach_tree a
write_tree (write.Keeping x there) = tt
write_tree (write.Editing noted c) = edit_tree c
write_tree (write.Ending r) = tt
write_tree (write.Over r) = tt

post_tree : (a : PostStage) → IsOfTree (post_next_in a)
post_tree post.New = tt
post_tree (post.Coming a) = approach_tree a
post_tree (post.Growing g) = growth_tree g
post_tree (post.Walking w) = tt
post_tree (post.Editing c) = edit_tree c
post_tree (post.Staying x r) = tt
post_tree (post.Ending r) = tt
post_tree (post.Over r) = tt

compress_tree : (a : CompressStage) → IsOfTree (compress_next_in a)
compress_tree compress.New = tt
compress_tree (compress.Coming a) = approach_tree a
compress_tree (compress.Compressing c) = compression_tree c
compress_tree (compress.Staying x) = tt
compress_tree (compress.Ending r) = tt
compress_tree (compress.Over r) = tt

lowering_tree : (l : Lowering) → IsOfTree (lowering_next l)
lowering_tree lowering.Looking = tt
lowering_tree lowering.LatchingAnchor = tt
lowering_tree lowering.LatchedAnchor = tt
lowering_tree (lowering.LatchingTop t) = tt
lowering_tree (lowering.LatchedTop t) = tt
lowering_tree (lowering.PuttingAnchor s) = tt
lowering_tree (lowering.PuttingDead s) = tt
lowering_tree (lowering.Retiring x) = tt
lowering_tree (lowering.OpeningTop x what) = tt
lowering_tree (lowering.OpeningAnchor what) = tt

lower_tree : (a : LowerStage) → IsOfTree (lower_next_in a)
lower_tree lower.New = tt
lower_tree (lower.Sinking l) = lowering_tree l
lower_tree (lower.Ending r) = tt
lower_tree (lower.Over r) = tt

climb_tree : (a : ClimbStage) → IsOfTree (climb_next_in a)
climb_tree (climb.Writing w) = write_tree w.stage
climb_tree (climb.Posting p) = post_tree p.stage
climb_tree (climb.Ending r) = tt
climb_tree (climb.Over r) = tt

reclaim_tree : (page : ℕ) (a : ReclaimStage) → IsOfTree (reclaim_next_in page a) → ⊥
reclaim_tree page reclaim.Seeing h = h
reclaim_tree page (reclaim.Looking r) h = h
reclaim_tree page reclaim.Releasing h = h
reclaim_tree page (reclaim.Over what) h = h

pub reclaims : (p : Proc) → (IsOfTree (next_of p) → ⊥) → (q : Reclaim) × (p ≡ proc.Reclaim q)
reclaims (proc.Find p) h = absurd (h (find_tree p.stage))
reclaims (proc.Write p) h = absurd (h (write_tree p.stage))
reclaims (proc.Post p) h = absurd (h (post_tree p.stage))
reclaims (proc.Part p) h = absurd (h (part_tree p.stage))
reclaims (proc.Compress p) h = absurd (h (compress_tree p.stage))
reclaims (proc.Reclaim p) h = (p, refl)
reclaims (proc.Lower p) h = absurd (h (lower_tree p.stage))
reclaims (proc.InsertPost p) h = absurd (h (climb_tree p.stage))

-- what a process is told of an action on the tree makes none of this kind of it
pub takes_tree : (p : Proc) (what : Seen) (q : Reclaim) → IsOfTree (next_of p) → Takes p what (proc.Reclaim q) → ⊥
takes_tree (proc.Find p) what q h t = t
takes_tree (proc.Write p) what q h t = t
takes_tree (proc.Post p) what q h t = t
takes_tree (proc.Part p) what q h t = t
takes_tree (proc.Compress p) what q h t = t
takes_tree (proc.Reclaim p) what q h t = reclaim_tree p.page p.stage h
takes_tree (proc.Lower p) what q h t = t
takes_tree (proc.InsertPost p) what q h t = t

pub see_page : (page x : ℕ) (a : ReclaimStage) → reclaim_next_in page a ≡ act.See x → page ≡ x
see_page page x reclaim.Seeing e = (let f : act.See page ≡ act.See x = e in cc)
see_page page x old e = absurd cc

pub release_page : (page x : ℕ) (a : ReclaimStage) → reclaim_next_in page a ≡ act.Release x → page ≡ x
release_page page x reclaim.Seeing e = absurd cc
release_page page x (reclaim.Looking r) e = absurd cc
release_page page x reclaim.Releasing e = (let f : act.Release page ≡ act.Release x = e in cc)
release_page page x (reclaim.Over what) e = (let f : act.Release page ≡ act.Release x = e in cc)
