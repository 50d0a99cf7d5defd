-- Where a process goes on without room, and what it may have asked for.
use Rattle.std.specs.Prelude.{◌≡◌, ◌⊎◌, ℕ, Some}
use Rattle.bl_model.specs.declared.operation.Reply.TheVariants as reply
use Rattle.bl_answers.specs.declared.answers.Answer.{Answer}
use Rattle.bl_answers.specs.declared.answers.Answer.TheVariants as answer
use Rattle.bl_answers.specs.declared.answers.Posted.TheVariants as posted
use Rattle.bl_answers.specs.declared.answers.Squeezed.TheVariants as squeezed
use Rattle.bl_proc_steps.specs.declared.edit.Outcome.{Outcome}
use Rattle.bl_proc_steps.specs.declared.edit.Outcome.TheVariants as outcome
use Rattle.bl_proc_steps.specs.declared.edit.Edit.{Edit}
use Rattle.bl_proc_steps.specs.declared.edit.Edit.TheVariants as edit
use Rattle.bl_proc_steps.specs.declared.growth.Growth.{Growth}
use Rattle.bl_proc_steps.specs.declared.growth.Growth.TheVariants as growth
use Rattle.bl_answers.specs.declared.answers.Lowered.{Lowered}
use Rattle.bl_answers.specs.declared.answers.Lowered.TheVariants as lowered
use Rattle.bl_proc_steps.specs.declared.lowering.Lowering.{Lowering}
use Rattle.bl_proc_steps.specs.declared.lowering.Lowering.TheVariants as lowering
use Rattle.bl_proc_compress.specs.declared.compression.Decision.{Decision}
use Rattle.bl_proc_compress.specs.declared.compression.Decision.TheVariants as decision
use Rattle.bl_proc_compress.specs.declared.compression.Compression.{Compression}
use Rattle.bl_proc_compress.specs.declared.compression.Compression.TheVariants.{LatchingLeft, LatchedLeft, LatchingRight, LatchedRight, PuttingFirst, PuttingParent, PuttingLast, Retiring, OpeningRight, OpeningLeft, OpeningParent}
use Rattle.bl_proc_compress.specs.declared.compress.CompressReply.{CompressReply}
use Rattle.bl_proc_compress.specs.declared.compress.CompressReply.TheVariants as compressed
use Rattle.bl_proc_compress.specs.declared.compress.CompressStage.{CompressStage}
use Rattle.bl_proc_compress.specs.declared.compress.CompressStage.TheVariants as compress
use Rattle.bl_proc_writes.specs.declared.writing.WriteReply.{WriteReply}
use Rattle.bl_proc_writes.specs.declared.writing.WriteReply.TheVariants as written
use Rattle.bl_proc_writes.specs.declared.writing.WriteStage.{WriteStage}
use Rattle.bl_proc_writes.specs.declared.writing.WriteStage.TheVariants as write
use Rattle.bl_proc_writes.specs.declared.post.PostStage.{PostStage}
use Rattle.bl_proc_writes.specs.declared.post.PostStage.TheVariants as post
use Rattle.bl_proc_writes.specs.declared.post.PostReply.{PostReply}
use Rattle.bl_proc_writes.specs.declared.post.PostReply.TheVariants as listed
use Rattle.bl_proc_writes.specs.declared.insert_post.Climbed.{Climbed}
use Rattle.bl_proc_writes.specs.declared.insert_post.Climbed.TheVariants as climbed
use Rattle.bl_proc_writes.specs.declared.insert_post.ClimbStage.{ClimbStage}
use Rattle.bl_proc_writes.specs.declared.insert_post.ClimbStage.TheVariants as climb
use Rattle.bl_proc.specs.declared.lowering.LowerStage.{LowerStage}
use Rattle.bl_proc.specs.declared.lowering.LowerStage.TheVariants as lower
use Rattle.bl_proc.specs.declared.kinds.Proc.{Proc}
use Rattle.bl_proc.specs.declared.kinds.Proc.TheVariants as proc

-- The answer is that there was no room. An insertion that posts may lack it for its own pair, and for its last post.
abbrev pub IsNoRoom : Answer → Type 0
IsNoRoom (answer.Op reply.NoRoom hint) = Unit {0}
IsNoRoom (answer.Post posted.NoRoom hint) = Unit {0}
IsNoRoom (answer.Compress squeezed.NoRoom hint) = Unit {0}
IsNoRoom (answer.Lower lowered.NoRoom) = Unit {0}
IsNoRoom (answer.InsertPost reply.NoRoom last hint) = Unit {0}
IsNoRoom (answer.InsertPost other (Some posted.NoRoom) hint) = Unit {0}
IsNoRoom other = ⊥

-- It goes on without room. Puts with such a fate count too, though none are ever decided.
abbrev pub DecisionRefused : Decision → Type 0
DecisionRefused (decision.Merged hint) = ⊥
DecisionRefused decision.Evened = ⊥
DecisionRefused decision.Enough = ⊥
DecisionRefused (decision.Unposted hint) = ⊥
DecisionRefused decision.Refused = Unit {0}
DecisionRefused decision.Lost = ⊥

abbrev pub CompressionRefused : Compression → Type 0
CompressionRefused (LatchingLeft f) = ⊥
CompressionRefused (LatchedLeft f) = ⊥
CompressionRefused (LatchingRight f page) = ⊥
CompressionRefused (LatchedRight f page) = ⊥
CompressionRefused (PuttingFirst u) = DecisionRefused u.decision
CompressionRefused (PuttingParent u) = DecisionRefused u.decision
CompressionRefused (PuttingLast u) = DecisionRefused u.decision
CompressionRefused (Retiring at end) = DecisionRefused end
CompressionRefused (OpeningRight at end) = DecisionRefused end
CompressionRefused (OpeningLeft at end) = DecisionRefused end
CompressionRefused (OpeningParent x end) = DecisionRefused end

abbrev pub CompressNoRoom : CompressReply → Type 0
CompressNoRoom (compressed.Merged hint) = ⊥
CompressNoRoom compressed.Evened = ⊥
CompressNoRoom compressed.Enough = ⊥
CompressNoRoom compressed.Alone = ⊥
CompressNoRoom (compressed.Unposted hint) = ⊥
CompressNoRoom compressed.NoRoom = Unit {0}

abbrev pub CompressRefused : CompressStage → Type 0
CompressRefused compress.New = ⊥
CompressRefused (compress.Coming a) = ⊥
CompressRefused (compress.Compressing c) = CompressionRefused c
CompressRefused (compress.Staying x) = ⊥
CompressRefused (compress.Ending r) = CompressNoRoom r
CompressRefused (compress.Over r) = CompressNoRoom r

abbrev pub OutcomeRefused : Outcome → Type 0
OutcomeRefused outcome.Edited = ⊥
OutcomeRefused (outcome.SplitAt k) = ⊥
OutcomeRefused outcome.Refused = Unit {0}

abbrev pub EditRefused : Edit → Type 0
EditRefused (edit.Putting x0 c0) = ⊥
EditRefused (edit.Taking t0) = ⊥
EditRefused (edit.PuttingNew t0) = ⊥
EditRefused (edit.PuttingOld t0) = ⊥
EditRefused (edit.OpeningNew x0 n0 s0) = ⊥
EditRefused (edit.Opening x0 o0) = OutcomeRefused o0

abbrev pub GrowthRefused : Growth → Type 0
GrowthRefused growth.Latching = ⊥
GrowthRefused growth.Latched = ⊥
GrowthRefused (growth.Taking r0) = ⊥
GrowthRefused (growth.PuttingTop r0) = ⊥
GrowthRefused (growth.PuttingAnchor r0) = ⊥
GrowthRefused (growth.OpeningTop x0) = ⊥
GrowthRefused growth.OpeningGrown = ⊥
GrowthRefused growth.OpeningRefused = Unit {0}

abbrev pub WriteNoRoom : WriteReply → Type 0
WriteNoRoom (written.Done there hint) = ⊥
WriteNoRoom written.NoRoom = Unit {0}

abbrev pub WriteRefused : WriteStage → Type 0
WriteRefused write.New = ⊥
WriteRefused (write.Coming a) = ⊥
WriteRefused (write.Keeping x there) = ⊥
WriteRefused (write.Editing noted c) = EditRefused c
WriteRefused (write.Ending r) = WriteNoRoom r
WriteRefused (write.Over r) = WriteNoRoom r

abbrev pub PostNoRoom : PostReply → Type 0
PostNoRoom (listed.Done s) = ⊥
PostNoRoom listed.Already = ⊥
PostNoRoom listed.Stale = ⊥
PostNoRoom listed.NoRoom = Unit {0}
PostNoRoom listed.TooTall = ⊥

abbrev pub PostRefused : PostStage → Type 0
PostRefused post.New = ⊥
PostRefused (post.Coming a) = ⊥
PostRefused (post.Growing g) = GrowthRefused g
PostRefused (post.Walking w) = ⊥
PostRefused (post.Editing c) = EditRefused c
PostRefused (post.Staying x r) = PostNoRoom r
PostRefused (post.Ending r) = PostNoRoom r
PostRefused (post.Over r) = PostNoRoom r

abbrev pub LowerNoRoom : Lowered → Type 0
LowerNoRoom lowered.Lowered = ⊥
LowerNoRoom lowered.Needed = ⊥
LowerNoRoom lowered.NoRoom = Unit {0}

abbrev pub LoweringRefused : Lowering → Type 0
LoweringRefused lowering.Looking = ⊥
LoweringRefused lowering.LatchingAnchor = ⊥
LoweringRefused lowering.LatchedAnchor = ⊥
LoweringRefused (lowering.LatchingTop t) = ⊥
LoweringRefused (lowering.LatchedTop t) = ⊥
LoweringRefused (lowering.PuttingAnchor s) = ⊥
LoweringRefused (lowering.PuttingDead s) = ⊥
LoweringRefused (lowering.Retiring x) = ⊥
LoweringRefused (lowering.OpeningTop x what) = LowerNoRoom what
LoweringRefused (lowering.OpeningAnchor what) = LowerNoRoom what

abbrev pub LowerRefused : LowerStage → Type 0
LowerRefused lower.New = ⊥
LowerRefused (lower.Sinking l) = LoweringRefused l
LowerRefused (lower.Ending r) = LowerNoRoom r
LowerRefused (lower.Over r) = LowerNoRoom r

abbrev pub ClimbNoRoom : Climbed → Type 0
ClimbNoRoom (climbed.Unsplit r) = WriteNoRoom r
ClimbNoRoom (climbed.Posted level key r) = PostNoRoom r

abbrev pub ClimbRefused : ClimbStage → Type 0
ClimbRefused (climb.Writing w) = WriteRefused w.stage
ClimbRefused (climb.Posting p) = PostRefused p.stage
ClimbRefused (climb.Ending r) = ClimbNoRoom r
ClimbRefused (climb.Over r) = ClimbNoRoom r

abbrev pub IsRefused : Proc → Type 0
IsRefused (proc.Find p) = ⊥
IsRefused (proc.Write p) = WriteRefused p.stage
IsRefused (proc.Post p) = PostRefused p.stage
IsRefused (proc.Part p) = ⊥
IsRefused (proc.Compress p) = CompressRefused p.stage
IsRefused (proc.Reclaim p) = ⊥
IsRefused (proc.Lower p) = LowerRefused p.stage
IsRefused (proc.InsertPost p) = ClimbRefused p.stage

-- It is to put what was decided with such a fate, or to retire a page after it. None is ever decided.
abbrev pub CompressionPuts : Compression → Type 0
CompressionPuts (LatchingLeft f) = ⊥
CompressionPuts (LatchedLeft f) = ⊥
CompressionPuts (LatchingRight f page) = ⊥
CompressionPuts (LatchedRight f page) = ⊥
CompressionPuts (PuttingFirst u) = DecisionRefused u.decision
CompressionPuts (PuttingParent u) = DecisionRefused u.decision
CompressionPuts (PuttingLast u) = DecisionRefused u.decision
CompressionPuts (Retiring at end) = DecisionRefused end
CompressionPuts (OpeningRight at end) = ⊥
CompressionPuts (OpeningLeft at end) = ⊥
CompressionPuts (OpeningParent x end) = ⊥

abbrev pub CompressPuts : CompressStage → Type 0
CompressPuts compress.New = ⊥
CompressPuts (compress.Coming a) = ⊥
CompressPuts (compress.Compressing c) = CompressionPuts c
CompressPuts (compress.Staying x) = ⊥
CompressPuts (compress.Ending r) = ⊥
CompressPuts (compress.Over r) = ⊥

abbrev pub PutsRefused : Proc → Type 0
PutsRefused (proc.Find p) = ⊥
PutsRefused (proc.Write p) = ⊥
PutsRefused (proc.Post p) = ⊥
PutsRefused (proc.Part p) = ⊥
PutsRefused (proc.Compress p) = CompressPuts p.stage
PutsRefused (proc.Reclaim p) = ⊥
PutsRefused (proc.Lower p) = ⊥
PutsRefused (proc.InsertPost p) = ⊥

-- What a process of this kind asks for, pages and frames: for a put of one page; for one of two pages, of which one is
-- new; for those of a compression; for the two of a lowering.
abbrev pub MayAsk : Proc → ℕ × ℕ → Type 0
MayAsk (proc.Find p) ask = ⊥
MayAsk (proc.Write p) ask = (ask ≡ (0, 1)) ⊎ (ask ≡ (1, 2))
MayAsk (proc.Post p) ask = (ask ≡ (0, 1)) ⊎ (ask ≡ (1, 2))
MayAsk (proc.Part p) ask = ⊥
MayAsk (proc.Compress p) ask = ask ≡ (0, 3)
MayAsk (proc.Reclaim p) ask = ⊥
MayAsk (proc.Lower p) ask = ask ≡ (0, 2)
MayAsk (proc.InsertPost p) ask = (ask ≡ (0, 1)) ⊎ (ask ≡ (1, 2))
