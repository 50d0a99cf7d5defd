-- Who latches a page while it holds none, and who holds none since it has answered.
use Rattle.std.proofs.Common.{ℕ, ◌≡◌, ◌≢◌, ◌<◌, Some, List, [], arith, refl}
use Rattle.bl_model.specs.declared.deciding.KeyWrite.{KeyWrite}
use Rattle.bl_page.specs.declared.page.Page.{Page}
use Rattle.bl_tree_worlds.specs.Worlds.{Goes}
use Rattle.bl_proc_steps.specs.declared.acts.Action.TheVariants as act
use Rattle.bl_answers.specs.declared.answers.Answer.{Answer}
use Rattle.bl_proc_steps.specs.declared.approach.Approach.{Approach}
use Rattle.bl_proc_steps.specs.declared.approach.Approach.TheVariants as way
use Rattle.bl_proc_steps.specs.declared.edit.Edit.{Edit}
use Rattle.bl_proc_steps.specs.declared.edit.Edit.TheVariants as edit
use Rattle.bl_proc_steps.specs.declared.growth.Growth.{Growth}
use Rattle.bl_proc_steps.specs.declared.growth.Growth.TheVariants as growth
use Rattle.bl_proc_steps.specs.Approaches.{approach_next}
use Rattle.bl_proc_steps.specs.Edits.{edit_next}
use Rattle.bl_proc_steps.specs.Growths.{growth_next}
use Rattle.bl_proc_steps.specs.declared.lowering.Lowering.{Lowering}
use Rattle.bl_proc_steps.specs.declared.lowering.Lowering.TheVariants as lowering
use Rattle.bl_proc_compress.specs.declared.compression.Compression.{Compression}
use Rattle.bl_proc_compress.specs.declared.compression.Compression.TheVariants as compression
use Rattle.bl_proc_compress.specs.declared.compress.CompressStage.{CompressStage}
use Rattle.bl_proc_compress.specs.declared.compress.CompressStage.TheVariants as compress
use Rattle.bl_proc_compress.specs.Compresses.{compress_answer_in}
use Rattle.bl_proc.specs.declared.searching.FindStage.{FindStage}
use Rattle.bl_proc.specs.declared.searching.FindStage.TheVariants as find
use Rattle.bl_proc.specs.declared.parts.PartStage.{PartStage}
use Rattle.bl_proc.specs.declared.parts.PartStart.{PartStart}
use Rattle.bl_proc.specs.declared.parts.PartStage.TheVariants as part
use Rattle.bl_proc_writes.specs.declared.writing.WriteStage.{WriteStage}
use Rattle.bl_proc_writes.specs.declared.writing.WriteStage.TheVariants as write
use Rattle.bl_proc_writes.specs.declared.post.PostStage.{PostStage}
use Rattle.bl_proc_writes.specs.declared.post.PostStage.TheVariants as post
use Rattle.bl_proc.specs.declared.reclaiming.ReclaimStage.{ReclaimStage}
use Rattle.bl_proc.specs.declared.reclaiming.ReclaimStage.TheVariants as reclaim
use Rattle.bl_proc.specs.declared.lowering.LowerStage.{LowerStage}
use Rattle.bl_proc.specs.declared.lowering.LowerStage.TheVariants as lower
use Rattle.bl_proc.specs.Lowers.{lower_answer_in}
use Rattle.bl_proc.specs.declared.kinds.Proc.{Proc}
use Rattle.bl_proc.specs.declared.kinds.Proc.TheVariants as proc
use Rattle.bl_proc.specs.Processes.{answer_of}
use Rattle.bl_proc.specs.Searches.{find_next_in, find_answer_in}
use Rattle.bl_proc.specs.Parts.{part_next_in, part_answer_in}
use Rattle.bl_proc.specs.Reclaims.{reclaim_next_in, reclaim_answer_in}
use Rattle.bl_proc_writes.specs.Writes.{write_next_in, write_answer_in}
use Rattle.bl_proc_writes.specs.Posts.{post_next_in, post_answer_in}
use Rattle.bl_proc_writes.specs.declared.paths.Path.{Path}
use Rattle.bl_proc_writes.specs.declared.insert_post.ClimbStage.{ClimbStage}
use Rattle.bl_proc_writes.specs.declared.insert_post.ClimbStage.TheVariants as climb
use Rattle.bl_proc_writes.specs.InsertPosts.{climb_next_in, climb_answer_in}
use Rattle.bl_proc_invariant.specs.Tables.{Carried, unsaid, know_approach}
use Rattle.bl_proc_invariant.specs.Lowering.{know_lowering}
use Rattle.bl_proc_progress.specs.Holds.{approach_hold, edit_hold, growth_hold, lowering_hold, compression_hold, write_hold, post_hold, compress_hold, lower_hold, climb_hold, hold_of}
use Rattle.bl_proc_invariant.specs.Knowing.{path_goes, inserted, know_find, know_part, know_growth, know_write, know_post, know_climb, know_compress, know_reclaim, know_lower, know_of}
use Rattle.bl_proc_writes.specs.declared.insert_post.Placing.{Placing}
use Rattle.bl_proc_writes.specs.Placings.{write_of}

-- What a process holds that is to latch a page

approach_alone : (carried : Carried) → (level key : ℕ) (a : Approach) (x : ℕ) → approach_next a ≡ act.Latch x → (know_approach carried level key a).holds ≡ []
approach_alone carried level key way.Start x e = absurd (cc e)
approach_alone carried level key (way.At y) x e = absurd (cc e)
approach_alone carried level key (way.Latching y) x e = refl
approach_alone carried level key (way.Latched y) x e = absurd (cc e)
approach_alone carried level key (way.Leaving y to) x e = absurd (cc e)

pub edit_never : (c : Edit) (x : ℕ) → edit_next c ≢ act.Latch x
edit_never (edit.Putting y page) x e = cc
edit_never (edit.Taking full) x e = cc
edit_never (edit.PuttingNew p) x e = cc
edit_never (edit.PuttingOld p) x e = cc
edit_never (edit.OpeningNew y new separator) x e = cc
edit_never (edit.Opening y what) x e = cc

growth_alone : (carried : Carried) → (level key : ℕ) (got : ℕ → Page) (g : Growth) (x : ℕ) → growth_next g ≡ act.Latch x → (know_growth carried level key got g).holds ≡ []
growth_alone carried level key got growth.Latching x e = refl
growth_alone carried level key got old x e = absurd (cc e)

pub write_alone : (goes : List Goes) → (key : ℕ) (does : KeyWrite) (got : ℕ → Page) (a : WriteStage) (x : ℕ) → write_next_in a ≡ act.Latch x → (know_write goes key does got a).holds ≡ []
write_alone goes key does got write.New x e = refl
write_alone goes key does got (write.Coming a) x e = approach_alone (unsaid goes) 0 key a x e
write_alone goes key does got (write.Keeping y there) x e = absurd (cc e)
write_alone goes key does got (write.Editing noted c) x e = absurd (edit_never c x e)
write_alone goes key does got (write.Ending r) x e = refl
write_alone goes key does got (write.Over r) x e = refl

pub post_alone : (carried : Carried) → (level key : ℕ) (got : ℕ → Page) (child : ℕ) (a : PostStage) (x : ℕ) → post_next_in a ≡ act.Latch x → (know_post carried level key got child a).holds ≡ []
post_alone carried level key got child post.New x e = refl
post_alone carried level key got child (post.Coming a) x e = approach_alone carried level key a x e
post_alone carried level key got child (post.Growing g) x e = growth_alone carried level key got g x e
post_alone carried level key got child (post.Walking w) x e = absurd (cc e)
post_alone carried level key got child (post.Editing c) x e = absurd (edit_never c x e)
post_alone carried level key got child (post.Staying y r) x e = absurd (cc e)
post_alone carried level key got child (post.Ending r) x e = refl
post_alone carried level key got child (post.Over r) x e = refl

pub climb_alone : (key : ℕ) (placing : Placing) (path : Path) (got : ℕ → Page) (child : ℕ) (a : ClimbStage) (x : ℕ) → climb_next_in a ≡ act.Latch x → (know_climb key placing path got child a).holds ≡ []
climb_alone key placing path got child (climb.Writing v) x e = write_alone (path_goes path) key (write_of placing) got v.stage x e
climb_alone key placing path got child (climb.Posting q) x e = post_alone (inserted key placing path) q.level q.key got child q.stage x e
climb_alone key placing path got child (climb.Ending r) x e = refl
climb_alone key placing path got child (climb.Over r) x e = refl

pub coming_alone : (level key : ℕ) (a : Approach) (x : ℕ) → approach_next a ≡ act.Latch x → (know_approach (unsaid []) level key a).holds ≡ []
coming_alone level key a x e = approach_alone (unsaid []) level key a x e

pub find_looks : (a : FindStage) (x : ℕ) → find_next_in a ≢ act.Latch x
find_looks find.New x e = cc
find_looks (find.Near y) x e = cc
find_looks (find.Probing y) x e = cc
find_looks (find.Descending d) x e = cc
find_looks (find.Ending v) x e = cc
find_looks (find.Over v) x e = cc

pub part_looks : (a : PartStage) (x : ℕ) → part_next_in a ≢ act.Latch x
part_looks part.New x e = cc
part_looks (part.Near y) x e = cc
part_looks (part.Probing y) x e = cc
part_looks (part.Descending d) x e = cc
part_looks (part.Ending r) x e = cc
part_looks (part.Over r) x e = cc

pub reclaim_looks : (page : ℕ) (a : ReclaimStage) (x : ℕ) → reclaim_next_in page a ≢ act.Latch x
reclaim_looks page reclaim.Seeing x e = cc
reclaim_looks page (reclaim.Looking r) x e = cc
reclaim_looks page reclaim.Releasing x e = cc
reclaim_looks page (reclaim.Over what) x e = cc

-- What a process holds that has answered: nothing

find_over : (key : ℕ) (a : FindStage) (answer : Answer) → find_answer_in a ≡ Some answer → (know_find key a).holds ≡ []
find_over key (find.Over value) answer e = refl
find_over key old answer e = absurd (cc e)

part_over : (from : PartStart) (a : PartStage) (answer : Answer) → part_answer_in a ≡ Some answer → (know_part from a).holds ≡ []
part_over from (part.Over r) answer e = refl
part_over from old answer e = absurd (cc e)

write_over : (key : ℕ) (does : KeyWrite) (got : ℕ → Page) (a : WriteStage) (answer : Answer) → write_answer_in does a ≡ Some answer → (know_write [] key does got a).holds ≡ []
write_over key does got (write.Over r) answer e = refl
write_over key does got old answer e = absurd (cc e)

post_over : (carried : Carried) → (level key : ℕ) (got : ℕ → Page) (child : ℕ) (a : PostStage) (answer : Answer) → post_answer_in level a ≡ Some answer → (know_post carried level key got child a).holds ≡ []
post_over carried level key got child (post.Over r) answer e = refl
post_over carried level key got child old answer e = absurd (cc e)

compress_over : (level key : ℕ) (got : ℕ → Page) (a : CompressStage) (answer : Answer) → compress_answer_in a ≡ Some answer → (know_compress level key got a).holds ≡ []
compress_over level key got (compress.Over r) answer e = refl
compress_over level key got old answer e = absurd (cc e)

reclaim_over : (time : ℕ) (a : ReclaimStage) (answer : Answer) → reclaim_answer_in a ≡ Some answer → (know_reclaim time a).holds ≡ []
reclaim_over time (reclaim.Over what) answer e = refl
reclaim_over time old answer e = absurd (cc e)

lower_over : (got : ℕ → Page) (a : LowerStage) (answer : Answer) → lower_answer_in a ≡ Some answer → (know_lower got a).holds ≡ []
lower_over got (lower.Over r) answer e = refl
lower_over got old answer e = absurd (cc e)

climb_over : (key : ℕ) (placing : Placing) (path : Path) (got : ℕ → Page) (child : ℕ) (a : ClimbStage) (answer : Answer) → climb_answer_in placing a ≡ Some answer → (know_climb key placing path got child a).holds ≡ []
climb_over key placing path got child (climb.Over r) answer e = refl
climb_over key placing path got child old answer e = absurd (cc e)

pub answered_holds : (got : ℕ → Page) (child time : ℕ) (old : Proc) (answer : Answer) → answer_of old ≡ Some answer → (know_of got child time old).holds ≡ []
answered_holds got child time (proc.Find a) answer e = find_over a.key a.stage answer e
answered_holds got child time (proc.Write a) answer e = write_over a.key a.write got a.stage answer e
answered_holds got child time (proc.Post a) answer e = post_over (unsaid []) a.level a.key got child a.stage answer e
answered_holds got child time (proc.Part a) answer e = part_over a.from a.stage answer e
answered_holds got child time (proc.Compress a) answer e = compress_over a.level a.key got a.stage answer e
answered_holds got child time (proc.Reclaim a) answer e = reclaim_over time a.stage answer e
answered_holds got child time (proc.Lower a) answer e = lower_over got a.stage answer e
answered_holds got child time (proc.InsertPost a) answer e = climb_over a.key a.placing a.path got child a.stage answer e

-- What a process holds of whose turns none is left until it holds none: nothing

approach_none : (carried : Carried) → (level key most : ℕ) (a : Approach) → 0 < most → approach_hold most a ≡ 0 → (know_approach carried level key a).holds ≡ []
approach_none carried level key most way.Start some e = refl
approach_none carried level key most (way.At x) some e = refl
approach_none carried level key most (way.Latching x) some e = refl
approach_none carried level key most (way.Latched x) some e = absurd (omega (arith, some, e))
approach_none carried level key most (way.Leaving x to) some e = absurd (omega (arith, e))

edit_none : (c : Edit) → edit_hold c ≡ 0 → ⊥
edit_none (edit.Putting x page) e = omega (arith, e)
edit_none (edit.Taking full) e = omega (arith, e)
edit_none (edit.PuttingNew p) e = omega (arith, e)
edit_none (edit.PuttingOld p) e = omega (arith, e)
edit_none (edit.OpeningNew x new separator) e = omega (arith, e)
edit_none (edit.Opening x o) e = omega (arith, e)

growth_none : (carried : Carried) → (level key : ℕ) (got : ℕ → Page) (g : Growth) → growth_hold g ≡ 0 → (know_growth carried level key got g).holds ≡ []
growth_none carried level key got growth.Latching e = refl
growth_none carried level key got old e = absurd (omega (arith, e))

write_none : (goes : List Goes) → (key : ℕ) (does : KeyWrite) (got : ℕ → Page) (a : WriteStage) → write_hold a ≡ 0 → (know_write goes key does got a).holds ≡ []
write_none goes key does got write.New e = refl
write_none goes key does got (write.Coming a) e = approach_none (unsaid goes) 0 key 6 a (omega arith) e
write_none goes key does got (write.Keeping x there) e = absurd (omega (arith, e))
write_none goes key does got (write.Editing noted c) e = absurd (edit_none c e)
write_none goes key does got (write.Ending r) e = refl
write_none goes key does got (write.Over r) e = refl

post_none : (carried : Carried) → (level key : ℕ) (got : ℕ → Page) (child : ℕ) (a : PostStage) → post_hold a ≡ 0 → (know_post carried level key got child a).holds ≡ []
post_none carried level key got child post.New e = refl
post_none carried level key got child (post.Coming a) e = approach_none carried level key 7 a (omega arith) e
post_none carried level key got child (post.Growing g) e = growth_none carried level key got g e
post_none carried level key got child (post.Walking w) e = absurd (omega (arith, e))
post_none carried level key got child (post.Editing c) e = absurd (edit_none c e)
post_none carried level key got child (post.Staying x r) e = absurd (omega (arith, e))
post_none carried level key got child (post.Ending r) e = refl
post_none carried level key got child (post.Over r) e = refl

compression_none : (c : Compression) → compression_hold c ≡ 0 → ⊥
compression_none (compression.LatchingLeft f) e = omega (arith, e)
compression_none (compression.LatchedLeft f) e = omega (arith, e)
compression_none (compression.LatchingRight f c) e = omega (arith, e)
compression_none (compression.LatchedRight f c) e = omega (arith, e)
compression_none (compression.PuttingFirst p) e = omega (arith, e)
compression_none (compression.PuttingParent p) e = omega (arith, e)
compression_none (compression.PuttingLast p) e = omega (arith, e)
compression_none (compression.Retiring at decision) e = omega (arith, e)
compression_none (compression.OpeningRight at decision) e = omega (arith, e)
compression_none (compression.OpeningLeft at decision) e = omega (arith, e)
compression_none (compression.OpeningParent x decision) e = omega (arith, e)

compress_none : (level key : ℕ) (got : ℕ → Page) (a : CompressStage) → compress_hold a ≡ 0 → (know_compress level key got a).holds ≡ []
compress_none level key got compress.New e = refl
compress_none level key got (compress.Coming a) e = approach_none (unsaid []) level key 11 a (omega arith) e
compress_none level key got (compress.Compressing c) e = absurd (compression_none c e)
compress_none level key got (compress.Staying x) e = absurd (omega (arith, e))
compress_none level key got (compress.Ending r) e = refl
compress_none level key got (compress.Over r) e = refl

lowering_none : (got : ℕ → Page) (l : Lowering) → lowering_hold l ≡ 0 → (know_lowering got l).holds ≡ []
lowering_none got lowering.Looking e = refl
lowering_none got lowering.LatchingAnchor e = refl
lowering_none got old e = absurd (omega (arith, e))

lower_none : (got : ℕ → Page) (a : LowerStage) → lower_hold a ≡ 0 → (know_lower got a).holds ≡ []
lower_none got lower.New e = refl
lower_none got (lower.Sinking l) e = lowering_none got l e
lower_none got (lower.Ending r) e = refl
lower_none got (lower.Over r) e = refl

climb_none : (key : ℕ) (placing : Placing) (path : Path) (got : ℕ → Page) (child : ℕ) (a : ClimbStage) → climb_hold a ≡ 0 → (know_climb key placing path got child a).holds ≡ []
climb_none key placing path got child (climb.Writing w) e = write_none (path_goes path) key (write_of placing) got w.stage e
climb_none key placing path got child (climb.Posting p) e = post_none (inserted key placing path) p.level p.key got child p.stage e
climb_none key placing path got child (climb.Ending r) e = refl
climb_none key placing path got child (climb.Over r) e = refl

find_none : (key : ℕ) (a : FindStage) → (know_find key a).holds ≡ []
find_none key find.New = refl
find_none key (find.Near x) = refl
find_none key (find.Probing x) = refl
find_none key (find.Descending d) = refl
find_none key (find.Ending value) = refl
find_none key (find.Over value) = refl

part_none : (from : PartStart) (a : PartStage) → (know_part from a).holds ≡ []
part_none from part.New = refl
part_none from (part.Near x) = refl
part_none from (part.Probing x) = refl
part_none from (part.Descending d) = refl
part_none from (part.Ending r) = refl
part_none from (part.Over r) = refl

reclaim_none : (time : ℕ) (a : ReclaimStage) → (know_reclaim time a).holds ≡ []
reclaim_none time reclaim.Seeing = refl
reclaim_none time (reclaim.Looking r) = refl
reclaim_none time reclaim.Releasing = refl
reclaim_none time (reclaim.Over what) = refl

pub over_holds : (got : ℕ → Page) (child time : ℕ) (old : Proc) → hold_of old ≡ 0 → (know_of got child time old).holds ≡ []
over_holds got child time (proc.Find a) e = find_none a.key a.stage
over_holds got child time (proc.Write a) e = write_none [] a.key a.write got a.stage e
over_holds got child time (proc.Post a) e = post_none (unsaid []) a.level a.key got child a.stage e
over_holds got child time (proc.Part a) e = part_none a.from a.stage
over_holds got child time (proc.Compress a) e = compress_none a.level a.key got a.stage e
over_holds got child time (proc.Reclaim a) e = reclaim_none time a.stage
over_holds got child time (proc.Lower a) e = lower_none got a.stage e
over_holds got child time (proc.InsertPost a) e = climb_none a.key a.placing a.path got child a.stage e
