-- Which processes may be in the middle of a compression.
use Rattle.std.proofs.Common.{ℕ, ◌≡◌, ◌⊎◌, None, Some, List, [], refl, inl, inr}
use Rattle.bl_model.specs.declared.deciding.KeyWrite.{KeyWrite}
use Rattle.bl_page.specs.declared.page.Page.{Page}
use Rattle.bl_tree_worlds.specs.Worlds.{Goes, Know}
use Rattle.bl_proc_steps.specs.declared.approach.Approach.{Approach}
use Rattle.bl_proc_steps.specs.declared.approach.Approach.TheVariants as way
use Rattle.bl_proc_steps.specs.declared.edit.Edit.{Edit}
use Rattle.bl_proc_steps.specs.declared.edit.Edit.TheVariants as edit
use Rattle.bl_proc_steps.specs.declared.growth.Growth.{Growth}
use Rattle.bl_proc_steps.specs.declared.growth.Growth.TheVariants as growth
use Rattle.bl_proc.specs.declared.searching.FindStage.{FindStage}
use Rattle.bl_proc.specs.declared.searching.FindStage.TheVariants as find
use Rattle.bl_proc.specs.declared.parts.PartStage.{PartStage}
use Rattle.bl_proc.specs.declared.parts.PartStart.{PartStart}
use Rattle.bl_proc.specs.declared.parts.PartStage.TheVariants as part
use Rattle.bl_proc_writes.specs.declared.writing.WriteStage.{WriteStage}
use Rattle.bl_proc_writes.specs.declared.writing.WriteStage.TheVariants as write
use Rattle.bl_proc_writes.specs.declared.post.PostStage.{PostStage}
use Rattle.bl_proc_writes.specs.declared.post.PostStage.TheVariants as post
use Rattle.bl_proc.specs.declared.reclaiming.ReclaimStage.{ReclaimStage}
use Rattle.bl_proc.specs.declared.lowering.LowerStage.{LowerStage}
use Rattle.bl_proc.specs.declared.lowering.LowerStage.TheVariants as lower
use Rattle.bl_proc_steps.specs.declared.lowering.Lowering.{Lowering}
use Rattle.bl_proc_steps.specs.declared.lowering.Lowering.TheVariants as lowering
use Rattle.bl_proc_writes.specs.declared.paths.Path.{Path}
use Rattle.bl_proc_writes.specs.declared.insert_post.ClimbStage.{ClimbStage}
use Rattle.bl_proc_writes.specs.declared.insert_post.ClimbStage.TheVariants as climb
use Rattle.bl_proc_invariant.specs.Lowering.{know_lowering}
use Rattle.bl_proc.specs.declared.reclaiming.ReclaimStage.TheVariants as reclaim
use Rattle.bl_proc_compress.specs.declared.compress.Compress.{Compress as CompressIs}
use Rattle.bl_proc.specs.declared.kinds.Proc.{Proc}
use Rattle.bl_proc.specs.declared.kinds.Proc.TheVariants.{Find, Write, Post, Part, Compress, Reclaim, Lower, InsertPost}
use Rattle.bl_proc_invariant.specs.Tables.{Carried, unsaid, alone, Aim, know_approach, know_edit}
use Rattle.bl_proc_invariant.specs.Knowing.{know_growth, know_find, know_part, know_write, path_goes, inserted, know_climb, know_post, know_reclaim, know_lower, know_of}
use Rattle.bl_proc_writes.specs.declared.insert_post.Placing.{Placing}
use Rattle.bl_proc_writes.specs.Placings.{write_of}

-- it is not in the middle of a compression
record IsPlain (k : Know) : Type 1 where
  pub middle : k.middle ≡ None

approach_plain : (carried : Carried) → (level key : ℕ) (a : Approach) → IsPlain (know_approach carried level key a)
approach_plain carried level key way.Start = record { middle = refl }
approach_plain carried level key (way.At x) = record { middle = refl }
approach_plain carried level key (way.Latching x) = record { middle = refl }
approach_plain carried level key (way.Latched x) = record { middle = refl }
approach_plain carried level key (way.Leaving x None) = record { middle = refl }
approach_plain carried level key (way.Leaving x (Some y)) = record { middle = refl }

edit_plain : (aim : Aim) (got : ℕ → Page) (c : Edit) → IsPlain (know_edit aim got c)
edit_plain aim got (edit.Putting x page) = record { middle = refl }
edit_plain aim got (edit.Taking full) = record { middle = refl }
edit_plain aim got (edit.PuttingNew t) = record { middle = refl }
edit_plain aim got (edit.PuttingOld t) = record { middle = refl }
edit_plain aim got (edit.OpeningNew x y s) = record { middle = refl }
edit_plain aim got (edit.Opening x o) = record { middle = refl }

growth_plain : (carried : Carried) → (level key : ℕ) (got : ℕ → Page) (a : Growth) → IsPlain (know_growth carried level key got a)
growth_plain carried level key got growth.Latching = record { middle = refl }
growth_plain carried level key got growth.Latched = record { middle = refl }
growth_plain carried level key got (growth.Taking r) = record { middle = refl }
growth_plain carried level key got (growth.PuttingTop r) = record { middle = refl }
growth_plain carried level key got (growth.PuttingAnchor r) = record { middle = refl }
growth_plain carried level key got (growth.OpeningTop x) = record { middle = refl }
growth_plain carried level key got growth.OpeningGrown = record { middle = refl }
growth_plain carried level key got growth.OpeningRefused = record { middle = refl }

find_plain : (key : ℕ) (a : FindStage) → IsPlain (know_find key a)
find_plain key find.New = record { middle = refl }
find_plain key (find.Near x) = record { middle = refl }
find_plain key (find.Probing x) = record { middle = refl }
find_plain key (find.Descending d) = record { middle = refl }
find_plain key (find.Ending v) = record { middle = refl }
find_plain key (find.Over v) = record { middle = refl }

part_plain : (from : PartStart) (a : PartStage) → IsPlain (know_part from a)
part_plain from part.New = record { middle = refl }
part_plain from (part.Near x) = record { middle = refl }
part_plain from (part.Probing x) = record { middle = refl }
part_plain from (part.Descending d) = record { middle = refl }
part_plain from (part.Ending r) = record { middle = refl }
part_plain from (part.Over r) = record { middle = refl }

write_plain : (goes : List Goes) → (key : ℕ) (does : KeyWrite) (got : ℕ → Page) (a : WriteStage) → IsPlain (know_write goes key does got a)
write_plain goes key does got write.New = record { middle = refl }
write_plain goes key does got (write.Keeping x there) = record { middle = refl }
write_plain goes key does got (write.Ending r) = record { middle = refl }
write_plain goes key does got (write.Over r) = record { middle = refl }
write_plain goes key does got (write.Coming a) = approach_plain (unsaid goes) 0 key a
write_plain goes key does got (write.Editing noted c) = edit_plain _ got c

post_plain : (carried : Carried) → (level key : ℕ) (got : ℕ → Page) (child : ℕ) (a : PostStage) → IsPlain (know_post carried level key got child a)
post_plain carried level key got child post.New = record { middle = refl }
post_plain carried level key got child (post.Walking v) = record { middle = refl }
post_plain carried level key got child (post.Staying x r) = record { middle = refl }
post_plain carried level key got child (post.Ending r) = record { middle = refl }
post_plain carried level key got child (post.Over r) = record { middle = refl }
post_plain carried level key got child (post.Coming a) = approach_plain carried level key a
post_plain carried level key got child (post.Growing h) = growth_plain carried level key got h
post_plain carried level key got child (post.Editing c) = edit_plain _ got c

reclaim_plain : (time : ℕ) (a : ReclaimStage) → IsPlain (know_reclaim time a)
reclaim_plain time reclaim.Seeing = record { middle = refl }
reclaim_plain time (reclaim.Looking r) = record { middle = refl }
reclaim_plain time reclaim.Releasing = record { middle = refl }
reclaim_plain time (reclaim.Over what) = record { middle = refl }

lowering_plain : (got : ℕ → Page) (l : Lowering) → IsPlain (know_lowering got l)
lowering_plain got lowering.Looking = record { middle = refl }
lowering_plain got lowering.LatchingAnchor = record { middle = refl }
lowering_plain got lowering.LatchedAnchor = record { middle = refl }
lowering_plain got (lowering.LatchingTop t) = record { middle = refl }
lowering_plain got (lowering.LatchedTop t) = record { middle = refl }
lowering_plain got (lowering.PuttingAnchor s) = record { middle = refl }
lowering_plain got (lowering.PuttingDead s) = record { middle = refl }
lowering_plain got (lowering.Retiring x) = record { middle = refl }
lowering_plain got (lowering.OpeningTop x what) = record { middle = refl }
lowering_plain got (lowering.OpeningAnchor what) = record { middle = refl }

lower_plain : (got : ℕ → Page) (a : LowerStage) → IsPlain (know_lower got a)
lower_plain got lower.New = record { middle = refl }
lower_plain got (lower.Sinking l) = lowering_plain got l
lower_plain got (lower.Ending r) = record { middle = refl }
lower_plain got (lower.Over r) = record { middle = refl }

climb_plain : (key : ℕ) (placing : Placing) (path : Path) (got : ℕ → Page) (child : ℕ) (a : ClimbStage) → IsPlain (know_climb key placing path got child a)
climb_plain key placing path got child (climb.Writing v) = write_plain (path_goes path) key (write_of placing) got v.stage
climb_plain key placing path got child (climb.Posting q) = post_plain (inserted key placing path) q.level q.key got child q.stage
climb_plain key placing path got child (climb.Ending r) = record { middle = refl }
climb_plain key placing path got child (climb.Over r) = record { middle = refl }

-- whoever is in the middle of a compression compresses
pub of_middle : (got : ℕ → Page) (child time : ℕ) (state : Proc) → ((know_of got child time state).middle ≡ None) ⊎ ((p : CompressIs) × (state ≡ Compress p))
of_middle got child time (Find p) = inl (find_plain p.key p.stage).middle
of_middle got child time (Write p) = inl (write_plain [] p.key p.write got p.stage).middle
of_middle got child time (Post p) = inl (post_plain alone p.level p.key got child p.stage).middle
of_middle got child time (Part p) = inl (part_plain p.from p.stage).middle
of_middle got child time (Compress p) = inr (p, refl)
of_middle got child time (Reclaim p) = inl (reclaim_plain time p.stage).middle
of_middle got child time (Lower p) = inl (lower_plain got p.stage).middle
of_middle got child time (InsertPost p) = inl (climb_plain p.key p.placing p.path got child p.stage).middle
