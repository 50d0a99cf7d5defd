-- A process that holds a page runs.
use Rattle.std.proofs.Common.{ℕ, ◌≡◌, ◌⊎◌, None, Some, List, [], refl, inl, inr, subst}
use Rattle.bl_page.specs.Machine.{Phase}
use Rattle.bl_page.specs.declared.page.Page.{Page}
use Rattle.bl_tree_worlds.specs.Worlds.{Goes, Hold, Stage, Know, HoldsPage, IsStage}
use Rattle.bl_proc_steps.specs.declared.approach.Approach.{Approach}
use Rattle.bl_proc_steps.specs.declared.approach.Approach.TheVariants as approach
use Rattle.bl_proc_steps.specs.declared.edit.Edit.{Edit}
use Rattle.bl_proc_steps.specs.declared.edit.Edit.TheVariants as edit
use Rattle.bl_proc_steps.specs.declared.growth.Growth.{Growth}
use Rattle.bl_proc_steps.specs.declared.growth.Growth.TheVariants as growth
use Rattle.bl_proc_compress.specs.declared.compress.CompressStage.{CompressStage}
use Rattle.bl_proc_compress.specs.declared.compress.CompressStage.TheVariants as compress
use Rattle.bl_proc.specs.declared.searching.FindStage.{FindStage}
use Rattle.bl_proc.specs.declared.searching.FindStage.TheVariants as find
use Rattle.bl_model.specs.declared.deciding.KeyWrite.{KeyWrite}
use Rattle.bl_proc_writes.specs.declared.writing.WriteStage.{WriteStage}
use Rattle.bl_proc_writes.specs.declared.writing.WriteStage.TheVariants as write
use Rattle.bl_proc.specs.declared.parts.PartStage.{PartStage}
use Rattle.bl_proc.specs.declared.parts.PartStart.{PartStart}
use Rattle.bl_proc.specs.declared.parts.PartStage.TheVariants as part
use Rattle.bl_proc_writes.specs.declared.post.PostStage.{PostStage}
use Rattle.bl_proc_writes.specs.declared.post.PostStage.TheVariants as post
use Rattle.bl_proc.specs.declared.reclaiming.ReclaimStage.{ReclaimStage}
use Rattle.bl_proc.specs.declared.reclaiming.ReclaimStage.TheVariants as reclaim
use Rattle.bl_proc_steps.specs.declared.lowering.Lowering.{Lowering}
use Rattle.bl_proc_steps.specs.declared.lowering.Lowering.TheVariants as lowering
use Rattle.bl_proc.specs.declared.lowering.LowerStage.{LowerStage}
use Rattle.bl_proc.specs.declared.lowering.LowerStage.TheVariants as lower
use Rattle.bl_proc_writes.specs.declared.paths.Path.{Path}
use Rattle.bl_proc_writes.specs.declared.insert_post.ClimbStage.{ClimbStage}
use Rattle.bl_proc_writes.specs.declared.insert_post.ClimbStage.TheVariants as climb
use Rattle.bl_proc_invariant.specs.Lowering.{know_lowering}
use Rattle.bl_proc.specs.declared.kinds.Proc.{Proc}
use Rattle.bl_proc.specs.declared.kinds.Proc.TheVariants as proc
use Rattle.bl_proc_invariant.specs.Tables.{Carried, unsaid, alone, Aim, know_approach, know_edit}
use Rattle.bl_proc_invariant.specs.Compressing.{know_compression}
use Rattle.bl_proc_invariant.specs.Knowing.{Run, know, know_of, know_find, know_part, know_write, path_goes, inserted, know_climb, know_growth, know_post, know_compress, know_reclaim, know_lower}
use Rattle.bl_proc_compress.specs.declared.compression.Compression.{Compression}
use Rattle.bl_proc_compress.specs.declared.compression.Compression.TheVariants as compression
use Rattle.bl_proc_writes.specs.declared.insert_post.Placing.{Placing}
use Rattle.bl_proc_writes.specs.Placings.{write_of}

-- it runs, or holds nothing
abbrev MayHold : Know → Type 0
MayHold k = (k.stage ≡ Stage.Busy) ⊎ (k.holds ≡ [])

approach_holds : (carried : Carried) → (level key : ℕ) (a : Approach) → (know_approach carried level key a).stage ≡ Stage.Busy
approach_holds carried level key approach.Start = refl
approach_holds carried level key (approach.At x) = refl
approach_holds carried level key (approach.Latching x) = refl
approach_holds carried level key (approach.Latched x) = refl
approach_holds carried level key (approach.Leaving x None) = refl
approach_holds carried level key (approach.Leaving x (Some y)) = refl

edit_holds : (aim : Aim) (got : ℕ → Page) (c : Edit) → (know_edit aim got c).stage ≡ Stage.Busy
edit_holds aim got (edit.Putting x page) = refl
edit_holds aim got (edit.Taking full) = refl
edit_holds aim got (edit.PuttingNew p) = refl
edit_holds aim got (edit.PuttingOld p) = refl
edit_holds aim got (edit.OpeningNew x new separator) = refl
edit_holds aim got (edit.Opening x o) = refl

growth_holds : (carried : Carried) → (level key : ℕ) (got : ℕ → Page) (g : Growth) → (know_growth carried level key got g).stage ≡ Stage.Busy
growth_holds carried level key got growth.Latching = refl
growth_holds carried level key got growth.Latched = refl
growth_holds carried level key got (growth.Taking rise) = refl
growth_holds carried level key got (growth.PuttingTop r) = refl
growth_holds carried level key got (growth.PuttingAnchor r) = refl
growth_holds carried level key got (growth.OpeningTop x) = refl
growth_holds carried level key got growth.OpeningGrown = refl
growth_holds carried level key got growth.OpeningRefused = refl

compression_holds : (level key : ℕ) (got : ℕ → Page) (c : Compression) → (know_compression level key got c).stage ≡ Stage.Busy
compression_holds level key got (compression.LatchingLeft f) = refl
compression_holds level key got (compression.LatchedLeft f) = refl
compression_holds level key got (compression.LatchingRight f c) = refl
compression_holds level key got (compression.LatchedRight f c) = refl
compression_holds level key got (compression.PuttingFirst p) = refl
compression_holds level key got (compression.PuttingParent p) = refl
compression_holds level key got (compression.PuttingLast p) = refl
compression_holds level key got (compression.Retiring t decision) = refl
compression_holds level key got (compression.OpeningRight t decision) = refl
compression_holds level key got (compression.OpeningLeft t decision) = refl
compression_holds level key got (compression.OpeningParent x decision) = refl

find_holds : (key : ℕ) (a : FindStage) → MayHold (know_find key a)
find_holds key find.New = inr refl
find_holds key (find.Near x) = inr refl
find_holds key (find.Probing x) = inr refl
find_holds key (find.Descending d) = inr refl
find_holds key (find.Ending value) = inr refl
find_holds key (find.Over value) = inr refl

part_holds : (key : PartStart) (a : PartStage) → MayHold (know_part key a)
part_holds key part.New = inr refl
part_holds key (part.Near x) = inr refl
part_holds key (part.Probing x) = inr refl
part_holds key (part.Descending d) = inr refl
part_holds key (part.Ending r) = inr refl
part_holds key (part.Over r) = inr refl

write_holds : (goes : List Goes) → (key : ℕ) (does : KeyWrite) (got : ℕ → Page) (a : WriteStage) → MayHold (know_write goes key does got a)
write_holds goes key does got write.New = inr refl
write_holds goes key does got (write.Coming a) = inl (approach_holds (unsaid goes) 0 key a)
write_holds goes key does got (write.Keeping x there) = inl refl
write_holds goes key does got (write.Editing noted c) = inl (edit_holds _ got c)
write_holds goes key does got (write.Ending r) = inr refl
write_holds goes key does got (write.Over r) = inr refl

post_holds : (carried : Carried) → (level key : ℕ) (got : ℕ → Page) (child : ℕ) (a : PostStage) → MayHold (know_post carried level key got child a)
post_holds carried level key got child post.New = inr refl
post_holds carried level key got child (post.Coming a) = inl (approach_holds carried level key a)
post_holds carried level key got child (post.Growing g) = inl (growth_holds carried level key got g)
post_holds carried level key got child (post.Walking w) = inl refl
post_holds carried level key got child (post.Editing c) = inl (edit_holds _ got c)
post_holds carried level key got child (post.Staying x r) = inl refl
post_holds carried level key got child (post.Ending r) = inr refl
post_holds carried level key got child (post.Over r) = inr refl

compress_holds : (level key : ℕ) (got : ℕ → Page) (a : CompressStage) → MayHold (know_compress level key got a)
compress_holds level key got compress.New = inr refl
compress_holds level key got (compress.Coming a) = inl (approach_holds alone level key a)
compress_holds level key got (compress.Compressing c) = inl (compression_holds level key got c)
compress_holds level key got (compress.Staying x) = inl refl
compress_holds level key got (compress.Ending r) = inr refl
compress_holds level key got (compress.Over r) = inr refl

reclaim_holds : (time : ℕ) (a : ReclaimStage) → MayHold (know_reclaim time a)
reclaim_holds time reclaim.Seeing = inr refl
reclaim_holds time (reclaim.Looking r) = inr refl
reclaim_holds time reclaim.Releasing = inr refl
reclaim_holds time (reclaim.Over what) = inr refl

lowering_holds : (got : ℕ → Page) (l : Lowering) → (know_lowering got l).stage ≡ Stage.Busy
lowering_holds got lowering.Looking = refl
lowering_holds got lowering.LatchingAnchor = refl
lowering_holds got lowering.LatchedAnchor = refl
lowering_holds got (lowering.LatchingTop t) = refl
lowering_holds got (lowering.LatchedTop t) = refl
lowering_holds got (lowering.PuttingAnchor s) = refl
lowering_holds got (lowering.PuttingDead s) = refl
lowering_holds got (lowering.Retiring x) = refl
lowering_holds got (lowering.OpeningTop x what) = refl
lowering_holds got (lowering.OpeningAnchor what) = refl

lower_holds : (got : ℕ → Page) (a : LowerStage) → MayHold (know_lower got a)
lower_holds got lower.New = inr refl
lower_holds got (lower.Sinking l) = inl (lowering_holds got l)
lower_holds got (lower.Ending r) = inr refl
lower_holds got (lower.Over r) = inr refl

climb_holds : (key : ℕ) (placing : Placing) (path : Path) (got : ℕ → Page) (child : ℕ) (a : ClimbStage) → MayHold (know_climb key placing path got child a)
climb_holds key placing path got child (climb.Writing w) = write_holds (path_goes path) key (write_of placing) got w.stage
climb_holds key placing path got child (climb.Posting p) = post_holds (inserted key placing path) p.level p.key got child p.stage
climb_holds key placing path got child (climb.Ending r) = inr refl
climb_holds key placing path got child (climb.Over r) = inr refl

proc_holds : (got : ℕ → Page) (child time : ℕ) (p : Proc) → MayHold (know_of got child time p)
proc_holds got child time (proc.Find p) = find_holds p.key p.stage
proc_holds got child time (proc.Write p) = write_holds [] p.key p.write got p.stage
proc_holds got child time (proc.Post p) = post_holds alone p.level p.key got child p.stage
proc_holds got child time (proc.Part p) = part_holds p.from p.stage
proc_holds got child time (proc.Compress p) = compress_holds p.level p.key got p.stage
proc_holds got child time (proc.Reclaim p) = reclaim_holds time p.stage
proc_holds got child time (proc.Lower p) = lower_holds got p.stage
proc_holds got child time (proc.InsertPost p) = climb_holds p.key p.placing p.path got child p.stage

pub held_busy : (r : Run) (x : ℕ) (phase : Phase) → IsStage (know r).stage phase → HoldsPage (know r).holds x → (since : ℕ) × (phase ≡ Phase.Running since)
held_busy r x phase stage holds = elim (proc_holds r.got r.child r.time r.state) [
  | inl busy ↦ subst (λ (z : Stage). IsStage z phase) busy stage
  | inr none ↦ absurd (subst (λ (z : List Hold). HoldsPage z x) none holds)
]
