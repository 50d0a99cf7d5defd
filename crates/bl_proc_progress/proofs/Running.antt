-- Whoever holds a page has begun, and has not ended.
use Rattle.std.proofs.Common.{ℕ, ◌≡◌, ◌<◌, Some, None, List, [], arith, refl, inl, inr, subst}
use Rattle.std.proofs.lemmas.Bool.{cases_lt}
use Rattle.bl_model.specs.declared.deciding.KeyWrite.{KeyWrite}
use Rattle.bl_page.specs.declared.page.Page.{Page}
use Rattle.bl_page.specs.Machine.{Name, IsUnderway}
use Rattle.bl_page.specs.Machine.Owner.{Held}
use Rattle.bl_tree_worlds.specs.Worlds.{Goes, Stage, World, IsStage, IsGood}
use Rattle.bl_tree_worlds.specs.Worlds.Stage.{Busy}
use Rattle.bl_proc_steps.specs.declared.approach.Approach.{Approach}
use Rattle.bl_proc_steps.specs.declared.approach.Approach.TheVariants as way
use Rattle.bl_proc_steps.specs.declared.edit.Edit.{Edit}
use Rattle.bl_proc_steps.specs.declared.edit.Edit.TheVariants as edit
use Rattle.bl_proc_steps.specs.declared.growth.Growth.{Growth}
use Rattle.bl_proc_steps.specs.declared.growth.Growth.TheVariants as growth
use Rattle.bl_proc_steps.specs.declared.lowering.Lowering.{Lowering}
use Rattle.bl_proc_steps.specs.declared.lowering.Lowering.TheVariants as lowering
use Rattle.bl_proc_compress.specs.declared.compression.Compression.{Compression}
use Rattle.bl_proc_compress.specs.declared.compression.Compression.TheVariants as compression
use Rattle.bl_proc_compress.specs.declared.compress.CompressStage.{CompressStage}
use Rattle.bl_proc_compress.specs.declared.compress.CompressStage.TheVariants as compress
use Rattle.bl_proc_writes.specs.declared.writing.WriteStage.{WriteStage}
use Rattle.bl_proc_writes.specs.declared.writing.WriteStage.TheVariants as write
use Rattle.bl_proc_writes.specs.declared.post.PostStage.{PostStage}
use Rattle.bl_proc_writes.specs.declared.post.PostStage.TheVariants as post
use Rattle.bl_proc_writes.specs.declared.insert_post.ClimbStage.{ClimbStage}
use Rattle.bl_proc_writes.specs.declared.insert_post.ClimbStage.TheVariants as climb
use Rattle.bl_proc_writes.specs.declared.paths.Path.{Path}
use Rattle.bl_proc.specs.declared.lowering.LowerStage.{LowerStage}
use Rattle.bl_proc.specs.declared.lowering.LowerStage.TheVariants as lower
use Rattle.bl_proc.specs.declared.kinds.Proc.{Proc}
use Rattle.bl_proc.specs.declared.kinds.Proc.TheVariants as proc
use Rattle.bl_proc_invariant.specs.Tables.{Carried, unsaid, Aim, know_approach, know_edit}
use Rattle.bl_proc_invariant.specs.Compressing.{know_compression}
use Rattle.bl_proc_invariant.specs.Lowering.{know_lowering}
use Rattle.bl_proc_invariant.specs.Knowing.{Run, path_goes, inserted, know_growth, know_write, know_post, know_climb, know_compress, know_lower, know_of, know}
use Rattle.bl_proc_progress.specs.Holds.{write_hold, post_hold, compress_hold, lower_hold, climb_hold, hold_of}
use Rattle.bl_proc_progress.proofs.Nearing.{holds_none}
use Rattle.bl_proc_writes.specs.declared.insert_post.Placing.{Placing}
use Rattle.bl_proc_writes.specs.Placings.{write_of}

approach_busy : (carried : Carried) → (level key : ℕ) (a : Approach) → (know_approach carried level key a).stage ≡ Busy
approach_busy carried level key way.Start = refl
approach_busy carried level key (way.At x) = refl
approach_busy carried level key (way.Latching x) = refl
approach_busy carried level key (way.Latched x) = refl
approach_busy carried level key (way.Leaving x None) = refl
approach_busy carried level key (way.Leaving x (Some y)) = refl

edit_busy : (aim : Aim) (got : ℕ → Page) (c : Edit) → (know_edit aim got c).stage ≡ Busy
edit_busy aim got (edit.Putting x page) = refl
edit_busy aim got (edit.Taking full) = refl
edit_busy aim got (edit.PuttingNew p) = refl
edit_busy aim got (edit.PuttingOld p) = refl
edit_busy aim got (edit.OpeningNew x new separator) = refl
edit_busy aim got (edit.Opening x o) = refl

growth_busy : (carried : Carried) → (level key : ℕ) (got : ℕ → Page) (g : Growth) → (know_growth carried level key got g).stage ≡ Busy
growth_busy carried level key got growth.Latching = refl
growth_busy carried level key got growth.Latched = refl
growth_busy carried level key got (growth.Taking rise) = refl
growth_busy carried level key got (growth.PuttingTop r) = refl
growth_busy carried level key got (growth.PuttingAnchor r) = refl
growth_busy carried level key got (growth.OpeningTop x) = refl
growth_busy carried level key got growth.OpeningGrown = refl
growth_busy carried level key got growth.OpeningRefused = refl

write_busy : (goes : List Goes) → (key : ℕ) (does : KeyWrite) (got : ℕ → Page) (a : WriteStage) → 0 < write_hold a → (know_write goes key does got a).stage ≡ Busy
write_busy goes key does got write.New some = absurd (omega (arith, some))
write_busy goes key does got (write.Coming a) some = approach_busy (unsaid goes) 0 key a
write_busy goes key does got (write.Keeping x there) some = refl
write_busy goes key does got (write.Editing noted c) some = edit_busy _ got c
write_busy goes key does got (write.Ending r) some = refl
write_busy goes key does got (write.Over r) some = absurd (omega (arith, some))

post_busy : (carried : Carried) → (level key : ℕ) (got : ℕ → Page) (child : ℕ) (a : PostStage) → 0 < post_hold a → (know_post carried level key got child a).stage ≡ Busy
post_busy carried level key got child post.New some = absurd (omega (arith, some))
post_busy carried level key got child (post.Coming a) some = approach_busy carried level key a
post_busy carried level key got child (post.Growing g) some = growth_busy carried level key got g
post_busy carried level key got child (post.Walking w) some = refl
post_busy carried level key got child (post.Editing c) some = edit_busy _ got c
post_busy carried level key got child (post.Staying x r) some = refl
post_busy carried level key got child (post.Ending r) some = refl
post_busy carried level key got child (post.Over r) some = absurd (omega (arith, some))

compression_busy : (level key : ℕ) (got : ℕ → Page) (c : Compression) → (know_compression level key got c).stage ≡ Busy
compression_busy level key got (compression.LatchingLeft f) = refl
compression_busy level key got (compression.LatchedLeft f) = refl
compression_busy level key got (compression.LatchingRight f c) = refl
compression_busy level key got (compression.LatchedRight f c) = refl
compression_busy level key got (compression.PuttingFirst p) = refl
compression_busy level key got (compression.PuttingParent p) = refl
compression_busy level key got (compression.PuttingLast p) = refl
compression_busy level key got (compression.Retiring at decision) = refl
compression_busy level key got (compression.OpeningRight at decision) = refl
compression_busy level key got (compression.OpeningLeft at decision) = refl
compression_busy level key got (compression.OpeningParent x decision) = refl

compress_busy : (level key : ℕ) (got : ℕ → Page) (a : CompressStage) → 0 < compress_hold a → (know_compress level key got a).stage ≡ Busy
compress_busy level key got compress.New some = absurd (omega (arith, some))
compress_busy level key got (compress.Coming a) some = approach_busy _ level key a
compress_busy level key got (compress.Compressing c) some = compression_busy level key got c
compress_busy level key got (compress.Staying x) some = refl
compress_busy level key got (compress.Ending r) some = refl
compress_busy level key got (compress.Over r) some = absurd (omega (arith, some))

lowering_busy : (got : ℕ → Page) (l : Lowering) → (know_lowering got l).stage ≡ Busy
lowering_busy got lowering.Looking = refl
lowering_busy got lowering.LatchingAnchor = refl
lowering_busy got lowering.LatchedAnchor = refl
lowering_busy got (lowering.LatchingTop t) = refl
lowering_busy got (lowering.LatchedTop t) = refl
lowering_busy got (lowering.PuttingAnchor s) = refl
lowering_busy got (lowering.PuttingDead s) = refl
lowering_busy got (lowering.Retiring x) = refl
lowering_busy got (lowering.OpeningTop x what) = refl
lowering_busy got (lowering.OpeningAnchor what) = refl

lower_busy : (got : ℕ → Page) (a : LowerStage) → 0 < lower_hold a → (know_lower got a).stage ≡ Busy
lower_busy got lower.New some = absurd (omega (arith, some))
lower_busy got (lower.Sinking l) some = lowering_busy got l
lower_busy got (lower.Ending r) some = refl
lower_busy got (lower.Over r) some = absurd (omega (arith, some))

climb_busy : (key : ℕ) (placing : Placing) (path : Path) (got : ℕ → Page) (child : ℕ) (a : ClimbStage) → 0 < climb_hold a → (know_climb key placing path got child a).stage ≡ Busy
climb_busy key placing path got child (climb.Writing w) some = write_busy (path_goes path) key (write_of placing) got w.stage some
climb_busy key placing path got child (climb.Posting p) some = post_busy (inserted key placing path) p.level p.key got child p.stage some
climb_busy key placing path got child (climb.Ending r) some = refl
climb_busy key placing path got child (climb.Over r) some = absurd (omega (arith, some))

busy_of : (got : ℕ → Page) (child time : ℕ) (old : Proc) → 0 < hold_of old → (know_of got child time old).stage ≡ Busy
busy_of got child time (proc.Find a) some = absurd (omega (arith, some))
busy_of got child time (proc.Part a) some = absurd (omega (arith, some))
busy_of got child time (proc.Reclaim a) some = absurd (omega (arith, some))
busy_of got child time (proc.Write a) some = write_busy [] a.key a.write got a.stage some
busy_of got child time (proc.Post a) some = post_busy _ a.level a.key got child a.stage some
busy_of got child time (proc.Compress a) some = compress_busy a.level a.key got a.stage some
busy_of got child time (proc.Lower a) some = lower_busy got a.stage some
busy_of got child time (proc.InsertPost a) some = climb_busy a.key a.placing a.path got child a.stage some

pub holder_runs : (w : World Run) (p : Name) (x : ℕ) → IsGood know w → w.now.owner x ≡ Held p → IsUnderway w.now p
holder_runs w p x g held =
    let r = w.proc p in
    elim (cases_lt 0 (hold_of r.state)) [
      | inr none ↦ absurd (holds_none w p x g (omega (arith, none)) held)
      | inl some ↦ subst (λ (s : Stage). IsStage s (w.now.phase p)) (busy_of r.got r.child r.time r.state some) (g.sure p).stage
    ]
