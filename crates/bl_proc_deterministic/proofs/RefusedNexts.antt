-- What a process does that goes on without room, and what it had asked for.
use Rattle.std.proofs.Common.{ℕ, ◌≡◌, ◌⊎◌, None, Some, refl, inl, inr}
use Rattle.bl_proc_steps.specs.declared.acts.Seen.{Seen}
use Rattle.bl_proc_steps.specs.declared.acts.Action.{Action}
use Rattle.bl_proc_steps.specs.declared.acts.Action.TheVariants as act
use Rattle.bl_proc_steps.specs.declared.edit.Edit.{Edit}
use Rattle.bl_proc_steps.specs.declared.edit.Edit.TheVariants as edit
use Rattle.bl_proc_steps.specs.declared.growth.Growth.{Growth}
use Rattle.bl_proc_steps.specs.declared.growth.Growth.TheVariants as growth
use Rattle.bl_proc_steps.specs.Edits.{edit_next, edit_needs}
use Rattle.bl_proc_steps.specs.Growths.{growth_next, growth_needs}
use Rattle.bl_proc_compress.specs.declared.compression.Compression.{Compression}
use Rattle.bl_proc_compress.specs.declared.compression.Compression.TheVariants.{LatchingLeft, LatchedLeft, LatchingRight, LatchedRight, PuttingFirst, PuttingParent, PuttingLast, Retiring, OpeningRight, OpeningLeft, OpeningParent}
use Rattle.bl_proc_compress.specs.Compressions.{compression_next, compression_needs}
use Rattle.bl_proc_compress.specs.declared.compress.CompressStage.{CompressStage}
use Rattle.bl_proc_compress.specs.declared.compress.CompressStage.TheVariants as compress
use Rattle.bl_proc_compress.specs.Compresses.{compress_next_in, compress_needs_in}
use Rattle.bl_proc_writes.specs.declared.writing.WriteStage.{WriteStage}
use Rattle.bl_proc_writes.specs.declared.writing.WriteStage.TheVariants as write
use Rattle.bl_proc_writes.specs.declared.post.PostStage.{PostStage}
use Rattle.bl_proc_writes.specs.declared.post.PostStage.TheVariants as post
use Rattle.bl_proc_steps.specs.declared.lowering.Lowering.{Lowering}
use Rattle.bl_proc_steps.specs.declared.lowering.Lowering.TheVariants as lowering
use Rattle.bl_proc_steps.specs.Lowerings.{lowering_next, lowering_needs}
use Rattle.bl_proc.specs.declared.lowering.LowerStage.{LowerStage}
use Rattle.bl_proc.specs.declared.lowering.LowerStage.TheVariants as lower
use Rattle.bl_proc.specs.Lowers.{lower_next_in, lower_needs_in}
use Rattle.bl_proc_writes.specs.declared.insert_post.ClimbStage.{ClimbStage}
use Rattle.bl_proc_writes.specs.declared.insert_post.ClimbStage.TheVariants as climb
use Rattle.bl_proc_writes.specs.InsertPosts.{climb_next_in, climb_needs_in}
use Rattle.bl_proc.specs.declared.kinds.Proc.{Proc}
use Rattle.bl_proc.specs.declared.kinds.Proc.TheVariants as proc
use Rattle.bl_proc_writes.specs.Writes.{write_next_in, write_needs_in}
use Rattle.bl_proc_writes.specs.Posts.{post_next_in, post_needs_in}
use Rattle.bl_proc.specs.Processes.{next_of, needs_of, Takes}
use Rattle.bl_proc_deterministic.specs.Refusals.{EditRefused, GrowthRefused, WriteRefused, PostRefused, CompressionRefused, CompressRefused, LoweringRefused, LowerRefused, ClimbRefused, IsRefused, CompressionPuts, CompressPuts, PutsRefused, MayAsk}

-- it opens a page, or ends
abbrev pub OpensOrEnds : Action → Type 0
OpensOrEnds action = ((x : ℕ) × (action ≡ act.Open x)) ⊎ (action ≡ act.End)

edit_opens : (c : Edit) → EditRefused c → OpensOrEnds (edit_next c)
edit_opens (edit.Opening x o) r = inl (x, refl)
edit_opens old r = absurd r

growth_opens : (g : Growth) → GrowthRefused g → OpensOrEnds (growth_next g)
growth_opens growth.OpeningRefused r = inl (0, refl)
growth_opens old r = absurd r

write_opens : (s : WriteStage) → WriteRefused s → OpensOrEnds (write_next_in s)
write_opens (write.Editing noted c) r = edit_opens c r
write_opens (write.Ending a) r = inr refl
write_opens (write.Over a) r = inr refl
write_opens old r = absurd r

post_opens : (s : PostStage) → PostRefused s → OpensOrEnds (post_next_in s)
post_opens (post.Growing g) r = growth_opens g r
post_opens (post.Editing c) r = edit_opens c r
post_opens (post.Staying x a) r = inl (x, refl)
post_opens (post.Ending a) r = inr refl
post_opens (post.Over a) r = inr refl
post_opens old r = absurd r

compression_opens : (c : Compression) → CompressionRefused c → (CompressionPuts c → ⊥) → OpensOrEnds (compression_next c)
compression_opens (PuttingFirst u) r not = absurd (not r)
compression_opens (PuttingParent u) r not = absurd (not r)
compression_opens (PuttingLast u) r not = absurd (not r)
compression_opens (Retiring at end) r not = absurd (not r)
compression_opens (OpeningRight at end) r not = inl (_, refl)
compression_opens (OpeningLeft at end) r not = inl (_, refl)
compression_opens (OpeningParent x end) r not = inl (_, refl)
compression_opens old r not = absurd r

compress_opens : (s : CompressStage) → CompressRefused s → (CompressPuts s → ⊥) → OpensOrEnds (compress_next_in s)
compress_opens (compress.Compressing c) r not = compression_opens c r not
compress_opens (compress.Ending a) r not = inr refl
compress_opens (compress.Over a) r not = inr refl
compress_opens old r not = absurd r

lowering_opens : (l : Lowering) → LoweringRefused l → OpensOrEnds (lowering_next l)
lowering_opens (lowering.OpeningTop x what) r = inl (x, refl)
lowering_opens (lowering.OpeningAnchor what) r = inl (0, refl)
lowering_opens old r = absurd r

lower_opens : (s : LowerStage) → LowerRefused s → OpensOrEnds (lower_next_in s)
lower_opens (lower.Sinking l) r = lowering_opens l r
lower_opens (lower.Ending a) r = inr refl
lower_opens (lower.Over a) r = inr refl
lower_opens old r = absurd r

climb_opens : (s : ClimbStage) → ClimbRefused s → OpensOrEnds (climb_next_in s)
climb_opens (climb.Writing w) r = write_opens w.stage r
climb_opens (climb.Posting p) r = post_opens p.stage r
climb_opens (climb.Ending a) r = inr refl
climb_opens (climb.Over a) r = inr refl

pub refused_opens : (p : Proc) → IsRefused p → (PutsRefused p → ⊥) → OpensOrEnds (next_of p)
refused_opens (proc.Write p) r not = write_opens p.stage r
refused_opens (proc.Post p) r not = post_opens p.stage r
refused_opens (proc.Compress p) r not = compress_opens p.stage r not
refused_opens (proc.Lower p) r not = lower_opens p.stage r
refused_opens (proc.InsertPost p) r not = climb_opens p.stage r
refused_opens old r not = absurd r

-- What it asks for

some_ask : (a b : ℕ × ℕ) → Some a ≡ Some b → b ≡ a
some_ask a b e = (let f : b ≡ a = cc in f)

none_asks : {X : Type 0} (b : ℕ × ℕ) → None ≡ Some b → X
none_asks b e = absurd (let f : None ≡ Some b = e in cc)

edit_asks : (c : Edit) (b : ℕ × ℕ) → edit_needs c ≡ Some b → (b ≡ (0, 1)) ⊎ (b ≡ (1, 2))
edit_asks (edit.Putting x page) b e = inl (some_ask _ b e)
edit_asks (edit.Taking full) b e = inr (some_ask _ b e)
edit_asks (edit.PuttingNew p) b e = none_asks b e
edit_asks (edit.PuttingOld p) b e = none_asks b e
edit_asks (edit.OpeningNew x new separator) b e = none_asks b e
edit_asks (edit.Opening x o) b e = none_asks b e

growth_asks : (g : Growth) (b : ℕ × ℕ) → growth_needs g ≡ Some b → (b ≡ (0, 1)) ⊎ (b ≡ (1, 2))
growth_asks growth.Latching b e = none_asks b e
growth_asks growth.Latched b e = none_asks b e
growth_asks (growth.Taking rise) b e = inr (some_ask _ b e)
growth_asks (growth.PuttingTop t) b e = none_asks b e
growth_asks (growth.PuttingAnchor t) b e = none_asks b e
growth_asks (growth.OpeningTop x) b e = none_asks b e
growth_asks growth.OpeningGrown b e = none_asks b e
growth_asks growth.OpeningRefused b e = none_asks b e

write_asks : (s : WriteStage) (b : ℕ × ℕ) → write_needs_in s ≡ Some b → (b ≡ (0, 1)) ⊎ (b ≡ (1, 2))
write_asks write.New b e = none_asks b e
write_asks (write.Coming a) b e = none_asks b e
write_asks (write.Keeping x there) b e = none_asks b e
write_asks (write.Editing noted c) b e = edit_asks c b e
write_asks (write.Ending a) b e = none_asks b e
write_asks (write.Over a) b e = none_asks b e

post_asks : (s : PostStage) (b : ℕ × ℕ) → post_needs_in s ≡ Some b → (b ≡ (0, 1)) ⊎ (b ≡ (1, 2))
post_asks post.New b e = none_asks b e
post_asks (post.Coming a) b e = none_asks b e
post_asks (post.Growing g) b e = growth_asks g b e
post_asks (post.Walking w) b e = none_asks b e
post_asks (post.Editing c) b e = edit_asks c b e
post_asks (post.Staying x a) b e = none_asks b e
post_asks (post.Ending a) b e = none_asks b e
post_asks (post.Over a) b e = none_asks b e

compression_asks : (c : Compression) (b : ℕ × ℕ) → compression_needs c ≡ Some b → b ≡ (0, 3)
compression_asks (LatchingLeft f) b e = none_asks b e
compression_asks (LatchedLeft f) b e = none_asks b e
compression_asks (LatchingRight f page) b e = none_asks b e
compression_asks (LatchedRight f page) b e = none_asks b e
compression_asks (PuttingFirst u) b e = some_ask _ b e
compression_asks (PuttingParent u) b e = none_asks b e
compression_asks (PuttingLast u) b e = none_asks b e
compression_asks (Retiring at end) b e = none_asks b e
compression_asks (OpeningRight at end) b e = none_asks b e
compression_asks (OpeningLeft at end) b e = none_asks b e
compression_asks (OpeningParent x end) b e = none_asks b e

compress_asks : (s : CompressStage) (b : ℕ × ℕ) → compress_needs_in s ≡ Some b → b ≡ (0, 3)
compress_asks compress.New b e = none_asks b e
compress_asks (compress.Coming a) b e = none_asks b e
compress_asks (compress.Compressing c) b e = compression_asks c b e
compress_asks (compress.Staying x) b e = none_asks b e
compress_asks (compress.Ending a) b e = none_asks b e
compress_asks (compress.Over a) b e = none_asks b e

lowering_asks : (l : Lowering) (b : ℕ × ℕ) → lowering_needs l ≡ Some b → b ≡ (0, 2)
lowering_asks lowering.Looking b e = none_asks b e
lowering_asks lowering.LatchingAnchor b e = none_asks b e
lowering_asks lowering.LatchedAnchor b e = none_asks b e
lowering_asks (lowering.LatchingTop t) b e = none_asks b e
lowering_asks (lowering.LatchedTop t) b e = none_asks b e
lowering_asks (lowering.PuttingAnchor s) b e = some_ask _ b e
lowering_asks (lowering.PuttingDead s) b e = none_asks b e
lowering_asks (lowering.Retiring x) b e = none_asks b e
lowering_asks (lowering.OpeningTop x what) b e = none_asks b e
lowering_asks (lowering.OpeningAnchor what) b e = none_asks b e

lower_asks : (s : LowerStage) (b : ℕ × ℕ) → lower_needs_in s ≡ Some b → b ≡ (0, 2)
lower_asks lower.New b e = none_asks b e
lower_asks (lower.Sinking l) b e = lowering_asks l b e
lower_asks (lower.Ending a) b e = none_asks b e
lower_asks (lower.Over a) b e = none_asks b e

climb_asks : (s : ClimbStage) (b : ℕ × ℕ) → climb_needs_in s ≡ Some b → (b ≡ (0, 1)) ⊎ (b ≡ (1, 2))
climb_asks (climb.Writing w) b e = write_asks w.stage b e
climb_asks (climb.Posting p) b e = post_asks p.stage b e
climb_asks (climb.Ending a) b e = none_asks b e
climb_asks (climb.Over a) b e = none_asks b e

pub may_ask : (p : Proc) (b : ℕ × ℕ) → needs_of p ≡ Some b → MayAsk p b
may_ask (proc.Find p) b e = none_asks b e
may_ask (proc.Write p) b e = write_asks p.stage b e
may_ask (proc.Post p) b e = post_asks p.stage b e
may_ask (proc.Part p) b e = none_asks b e
may_ask (proc.Compress p) b e = compress_asks p.stage b e
may_ask (proc.Reclaim p) b e = none_asks b e
may_ask (proc.Lower p) b e = lower_asks p.stage b e
may_ask (proc.InsertPost p) b e = climb_asks p.stage b e

-- A step of a process leaves what its kind may ask for.
pub may_ask_on : (p : Proc) (what : Seen) (q : Proc) (b : ℕ × ℕ) → Takes p what q → MayAsk p b → MayAsk q b
may_ask_on (proc.Find p) what (proc.Find q) b t m = m
may_ask_on (proc.Write p) what (proc.Write q) b t m = m
may_ask_on (proc.Post p) what (proc.Post q) b t m = m
may_ask_on (proc.Part p) what (proc.Part q) b t m = m
may_ask_on (proc.Compress p) what (proc.Compress q) b t m = m
may_ask_on (proc.Reclaim p) what (proc.Reclaim q) b t m = m
may_ask_on (proc.Lower p) what (proc.Lower q) b t m = m
may_ask_on (proc.InsertPost p) what (proc.InsertPost q) b t m = m
may_ask_on old what new b t m = absurd t
