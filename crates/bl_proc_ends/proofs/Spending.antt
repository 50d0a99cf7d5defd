-- No turn leaves a process more puts, and each put leaves fewer, but for that of the anchor of a new top level.
use Rattle.std.proofs.Common.{ℕ, ◌≡◌, ◌≢◌, ◌⊎◌, ◌+◌, ◌-◌, ◌*◌, ◌<◌, ◌≤◌, Bool, Option, None, Some, arith, ap, sym, ◌∙◌, refl, inl, inr, subst}
use Rattle.bl_model.specs.declared.deciding.KeyWrite.{KeyWrite}
use Rattle.bl_page.specs.declared.page.Page.{Page}
use Rattle.bl_proc_steps.specs.declared.acts.Action.{Action}
use Rattle.bl_proc_steps.specs.declared.acts.Action.TheVariants as act
use Rattle.bl_proc_steps.specs.declared.acts.Seen.{Seen}
use Rattle.bl_proc_steps.specs.declared.acts.Seen.TheVariants as seen
use Rattle.bl_answers.specs.declared.answers.Hint.TheVariants as hint
use Rattle.bl_proc_steps.specs.declared.approach.Approach.{Approach}
use Rattle.bl_proc_steps.specs.declared.approach.Approach.TheVariants as way
use Rattle.bl_proc_steps.specs.declared.edit.Edit.{Edit}
use Rattle.bl_proc_steps.specs.declared.edit.Edit.TheVariants as edit
use Rattle.bl_proc_steps.specs.declared.edit.Edited.TheVariants as changed
use Rattle.bl_proc_steps.specs.declared.edit.Outcome.{Outcome}
use Rattle.bl_proc_steps.specs.declared.edit.Outcome.TheVariants as outcome
use Rattle.bl_proc_steps.specs.declared.growth.Growth.{Growth}
use Rattle.bl_proc_steps.specs.declared.growth.Growth.TheVariants as growth
use Rattle.bl_proc_steps.specs.declared.growth.Grew.TheVariants as grew
use Rattle.bl_proc_steps.specs.declared.lowering.Lowering.{Lowering}
use Rattle.bl_proc_steps.specs.declared.lowering.Lowering.TheVariants as lowering
use Rattle.bl_proc_steps.specs.declared.lowering.Sank.TheVariants as sank
use Rattle.bl_proc_steps.specs.Approaches.{approach_next}
use Rattle.bl_proc_steps.specs.Edits.{edit_next, Changes}
use Rattle.bl_proc_steps.specs.Growths.{growth_next, Grows}
use Rattle.bl_page.specs.declared.page.Page.TheVariants.{Inner as InnerPage}
use Rattle.bl_proc_writes.specs.declared.post.PostStage.{PostStage}
use Rattle.bl_proc_writes.specs.declared.post.PostStage.TheVariants as post
use Rattle.bl_proc_writes.specs.Posts.{post_next_in}
use Rattle.bl_proc_steps.specs.Lowerings.{lowering_next, Lowers}
use Rattle.bl_answers.specs.declared.answers.Lowered.{Lowered}
use Rattle.bl_rearrange.specs.declared.families.Family.{Family}
use Rattle.bl_rearrange.specs.declared.families.Siblings.{Siblings}
use Rattle.bl_proc_compress.specs.declared.compression.Decision.{Decision}
use Rattle.bl_proc_compress.specs.declared.compression.Decision.TheVariants as decision
use Rattle.bl_proc_compress.specs.declared.compression.Compression.{Compression}
use Rattle.bl_proc_compress.specs.declared.compression.Compression.TheVariants as compression
use Rattle.bl_proc_compress.specs.declared.compression.Compressed.TheVariants as step
use Rattle.bl_proc_compress.specs.declared.compress.CompressStage.{CompressStage}
use Rattle.bl_proc_compress.specs.Compressions.{put_of, other, compression_next, Links, Decides, after_puts, Compresses}
use Rattle.bl_proc_compress.specs.Compresses.{compress_reply, compress_next_in}
use Rattle.bl_proc.specs.declared.searching.FindStage.{FindStage}
use Rattle.bl_proc.specs.declared.searching.FindStage.TheVariants as find
use Rattle.bl_proc.specs.declared.parts.PartStage.{PartStage}
use Rattle.bl_proc.specs.declared.parts.PartStage.TheVariants as part
use Rattle.bl_proc.specs.declared.reclaiming.ReclaimStage.{ReclaimStage}
use Rattle.bl_proc.specs.declared.reclaiming.ReclaimStage.TheVariants as reclaim
use Rattle.bl_proc.specs.declared.lowering.LowerStage.{LowerStage}
use Rattle.bl_proc.specs.Lowers.{lower_next_in}
use Rattle.bl_proc.specs.Searches.{find_next_in}
use Rattle.bl_proc.specs.Parts.{part_next_in}
use Rattle.bl_proc.specs.Reclaims.{reclaim_next_in}
use Rattle.bl_proc.specs.declared.kinds.Proc.{Proc}
use Rattle.bl_proc.specs.declared.kinds.Proc.TheVariants as proc
use Rattle.bl_proc.specs.Processes.{next_of, Takes}
use Rattle.bl_proc_writes.specs.declared.writing.Noted.{Noted}
use Rattle.bl_proc_writes.specs.declared.writing.WriteReply.TheVariants as written
use Rattle.bl_proc_writes.specs.declared.post.PostReply.{PostReply}
use Rattle.bl_proc_writes.specs.declared.paths.Path.{Path}
use Rattle.bl_proc_writes.specs.declared.insert_post.ClimbStage.{ClimbStage}
use Rattle.bl_proc_writes.specs.InsertPosts.{climb_next_in}
use Rattle.bl_proc_writes.specs.Writes.{write_reply}
use Rattle.bl_proc_ends.proofs.Climbs.{not_thin}
use Rattle.bl_proc_writes.specs.declared.writing.WriteStage.{WriteStage}
use Rattle.bl_proc_writes.specs.declared.writing.WriteStage.TheVariants as write
use Rattle.bl_proc_writes.specs.Writes.{write_next_in}
use Rattle.bl_proc_steps.specs.declared.growth.Raising.{Raising}
use Rattle.bl_proc_deterministic.proofs.WayCases.{EditCase, edit_case, GrowthCase, growth_case, CompressionCase, compression_case}
use Rattle.bl_proc_deterministic.proofs.WayCases.GrowthCase.{LatchedAnchor as GrowthLatchedAnchor, Missed as GrowthMissed, Rises as GrowthRises, Stands as GrowthStands, TookTop as GrowthTookTop, TopRefused as GrowthTopRefused, PutTop as GrowthPutTop, PutAnchor as GrowthPutAnchor, OpenedTop as GrowthOpenedTop, OpenedGrown as GrowthOpenedGrown, OpenedRefused as GrowthOpenedRefused}
use Rattle.bl_proc_deterministic.proofs.WayCases.EditCase.{Put as EditPut, PutRefused as EditPutRefused, Took as EditTook, TakeRefused as EditTakeRefused, PutNew as EditPutNew, PutOld as EditPutOld, OpenedNew as EditOpenedNew, Opened as EditOpened}
use Rattle.bl_proc_deterministic.proofs.KindCases.{WriteCase, write_case, PostCase, post_case, CompressCase, compress_case, LowerCase, lower_case, ClimbCase, climb_case}
use Rattle.bl_proc_deterministic.proofs.WayCases.CompressionCase.{LatchLeft as CompressionLatchLeft, MissLeft as CompressionMissLeft, LeaveLeft as CompressionLeaveLeft, GotLeft as CompressionGotLeft, LatchRight as CompressionLatchRight, MissRight as CompressionMissRight, LeaveRight as CompressionLeaveRight, GotRight as CompressionGotRight, PutFirst as CompressionPutFirst, FirstRefused as CompressionFirstRefused, PutParent as CompressionPutParent, PutLast as CompressionPutLast, Retired as CompressionRetired, OpenedRight as CompressionOpenedRight, OpenedLeft as CompressionOpenedLeft, OpenedParent as CompressionOpenedParent}
use Rattle.bl_proc_deterministic.proofs.KindCases.CompressCase.{Began as CompressBegan, NoLevel as CompressNoLevel, Came as CompressCame, Met as CompressMet, Single as CompressSingle, WentOn as CompressWentOn, Lost as CompressLost, Finished as CompressFinished, Opened as CompressOpened, Ended as CompressEnded}
use Rattle.bl_proc_deterministic.proofs.KindCases.LowerCase.{Began as LowerBegan, Sank as LowerSank, Finished as LowerFinished, Ended as LowerEnded}
use Rattle.bl_proc_deterministic.proofs.KindCases.ClimbCase.{Wrote as ClimbWrote, Split as ClimbSplit, Unsplit as ClimbUnsplit, Posted as ClimbPosted, Higher as ClimbHigher, Finished as ClimbFinished, Ended as ClimbEnded}
use Rattle.bl_proc_deterministic.proofs.KindCases.PostCase.{Began as PostBegan, NoLevel as PostNoLevel, Tallest as PostTallest, ToGrow as PostToGrow, Came as PostCame, Listed as PostListed, ToWalk as PostToWalk, Grew as PostGrew, Grown as PostGrown, NoRoom as PostNoRoom, Walked as PostWalked, Entered as PostEntered, Stale as PostStale, Lost as PostLost, Edited as PostEdited, Finished as PostFinished, Opened as PostOpened, Ended as PostEnded}
use Rattle.bl_proc_deterministic.proofs.KindCases.WriteCase.{Began as WriteBegan, Came as WriteCame, Kept as WriteKept, Changed as WriteChanged, Opened as WriteOpened, Edited as WriteEdited, Finished as WriteFinished, Ended as WriteEnded}
use Rattle.bl_proc_ends.specs.Budget.{edit_puts, growth_puts, lowering_puts, decision_puts, compression_puts, write_puts, post_puts, compress_puts, lower_puts, climb_puts, puts_of, IsRaisingIn, IsRaisingUp, IsRaising}

-- of two budgets, before and after a turn by which that was given
pub record Spends (old : ℕ) (next : Action) (what : Seen) (new : ℕ) : Type 0 where
  pub kept : new ≤ old
  pub spent : (x : ℕ) (c : Page) → what ≡ seen.Done → next ≡ act.Put x c → new < old

less : (old : ℕ) (next : Action) (what : Seen) (new : ℕ) → new < old → Spends old next what new
less old next what new l = record { kept = omega (arith, l); spent = λ x c d e. l }

edit_spends : {c d : Edit} {what : Seen} → EditCase c what (changed.On d) → Spends (edit_puts c) (edit_next c) what (edit_puts d)
edit_spends (EditPut x page new e) = subst (λ v. Spends 1 (act.Put x page) seen.Done (edit_puts v)) (sym e) (less _ _ _ 0 (omega arith))
edit_spends (EditPutRefused x page new e) = subst (λ v. Spends 1 (act.Put x page) seen.Refused (edit_puts v)) (sym e) (less _ _ _ 0 (omega arith))
edit_spends (EditTook full y p t) = record { kept = omega arith; spent = λ x c d e. absurd (cc e) }
edit_spends (EditTakeRefused full new e) = subst (λ v. Spends 2 act.Take seen.Refused (edit_puts v)) (sym e) (less _ _ _ 0 (omega arith))
edit_spends (EditPutNew p new e) = subst (λ v. Spends 2 (act.Put p.new p.right) seen.Done (edit_puts v)) (sym e) (less _ _ _ 1 (omega arith))
edit_spends (EditPutOld p new e) = subst (λ v. Spends 1 (act.Put p.at p.left) seen.Done (edit_puts v)) (sym e) (less _ _ _ 0 (omega arith))
edit_spends (EditOpenedNew x y separator new e) = subst (λ v. Spends 0 (act.Open y) seen.Done (edit_puts v)) (sym e) (record { kept = omega arith; spent = λ z c d i. absurd (cc i) })

pub edit_two : (d : Edit) → edit_puts d ≤ 2
edit_two (edit.Putting x page) = omega arith
edit_two (edit.Taking full) = omega arith
edit_two (edit.PuttingNew p) = omega arith
edit_two (edit.PuttingOld p) = omega arith
edit_two (edit.OpeningNew x new separator) = omega arith
edit_two (edit.Opening x o) = omega arith

over_spends : (c : Edit) (what : Seen) (o : Outcome) → Changes c what (changed.Over o) → Spends (edit_puts c) (edit_next c) what 0
over_spends c what o t = by (edit_case c what (changed.Over o) t)
  where
    by : {what : Seen} {c : Edit} {o : Outcome} → EditCase c what (changed.Over o) → Spends (edit_puts c) (edit_next c) what 0
    by (EditOpened x p last e) = record { kept = omega arith; spent = λ z d e i. absurd (cc i) }

-- what is kept where the turn puts nothing
keeps : (old : ℕ) (next : Action) (what : Seen) (new : ℕ) → new ≤ old → ((x : ℕ) (c : Page) → next ≢ act.Put x c) → Spends old next what new
keeps old next what new l n = record { kept = l; spent = λ x c d e. absurd (n x c e) }

approach_none : (a : Approach) (x : ℕ) (c : Page) → approach_next a ≢ act.Put x c
approach_none way.Start x c e = cc
approach_none (way.At y) x c e = cc
approach_none (way.Latching y) x c e = cc
approach_none (way.Latched y) x c e = cc
approach_none (way.Leaving y to) x c e = cc

write_spends : {key : ℕ} {does : KeyWrite} {a b : WriteStage} {what : Seen} → WriteCase key does a what b → Spends (write_puts a) (write_next_in a) what (write_puts b)
write_spends (WriteBegan a e) = keeps 2 act.Begin seen.Done 2 (omega arith) (λ x c i. cc)
write_spends (WriteCame a what b t) = keeps 2 (approach_next a) what 2 (omega arith) (approach_none a)
write_spends (WriteKept x c y there h t) = keeps 2 (act.Get x) (seen.Words c) 0 (omega arith) (λ z d i. cc)
write_spends (WriteChanged x c noted d h t) = keeps 2 (act.Get x) (seen.Words c) (edit_puts d) (edit_two d) (λ z e i. cc)
write_spends (WriteOpened x there r e) = keeps 0 (act.Open x) seen.Done 0 (omega arith) (λ z d i. cc)
write_spends (WriteEdited noted c what same d t) = edit_spends (edit_case c what (changed.On d) t.1)
write_spends (WriteFinished noted c what r t) = over_spends c what t.0 t.1
write_spends (WriteEnded r last e) = keeps 0 act.End seen.Done 0 (omega arith) (λ z d i. cc)

growth_spends : {level : ℕ} {g h : Growth} {what : Seen} → GrowthCase level g what (grew.On h) → Spends (growth_puts g) (growth_next g) what (growth_puts h) ⊎ (((r : Raising) × (g ≡ growth.PuttingAnchor r)) × (growth_puts h ≤ growth_puts g + 1))
growth_spends (GrowthLatchedAnchor new e) = inl (subst (λ v. Spends 2 (act.Latch 0) seen.Done (growth_puts v)) (sym e) (keeps _ _ _ 2 (omega arith) (λ z d i. cc)))
growth_spends (GrowthMissed new e) = inl (subst (λ v. Spends 2 (act.Latch 0) seen.Missed (growth_puts v)) (sym e) (keeps _ _ _ 2 (omega arith) (λ z d i. cc)))
growth_spends (GrowthRises c rise t) = inl (keeps 2 (act.Get 0) (seen.Words c) 2 (omega arith) (λ z d i. cc))
growth_spends (GrowthStands c t) = inl (keeps 2 (act.Get 0) (seen.Words c) 2 (omega arith) (λ z d i. cc))
growth_spends (GrowthTookTop rise y r t) = inl (keeps 2 act.Take (seen.Took y) 2 (omega arith) (λ z d i. cc))
growth_spends (GrowthTopRefused rise new e) = inl (subst (λ v. Spends 2 act.Take seen.Refused (growth_puts v)) (sym e) (keeps _ _ _ 2 (omega arith) (λ z d i. cc)))
growth_spends (GrowthPutTop r new e) = inl (subst (λ v. Spends 2 (act.Put r.new r.top) seen.Done (growth_puts v)) (sym e) (less _ _ _ 1 (omega arith)))
growth_spends (GrowthPutAnchor r new e) = inr ((r, refl), subst (λ v. growth_puts v ≤ 2) (sym e) (omega arith))
growth_spends (GrowthOpenedTop x new e) = inl (subst (λ v. Spends 2 (act.Open x) seen.Done (growth_puts v)) (sym e) (keeps _ _ _ 2 (omega arith) (λ z d i. cc)))

-- a growth that is over has opened the anchor
grown_none : (g : Growth) (what : Seen) (level : ℕ) → Grows level g what grew.Grown → (growth_puts g ≡ 2) × ((x : ℕ) (c : Page) → growth_next g ≢ act.Put x c)
grown_none g what level t = by (growth_case level g what grew.Grown t)
  where
    by : {what : Seen} {g : Growth} → GrowthCase level g what grew.Grown → (growth_puts g ≡ 2) × ((x : ℕ) (c : Page) → growth_next g ≢ act.Put x c)
    by GrowthOpenedGrown = (refl, λ x c e. cc)

refused_none : (g : Growth) (what : Seen) (level : ℕ) → Grows level g what grew.Refused → (growth_puts g ≡ 2) × ((x : ℕ) (c : Page) → growth_next g ≢ act.Put x c)
refused_none g what level t = by (growth_case level g what grew.Refused t)
  where
    by : {what : Seen} {g : Growth} → GrowthCase level g what grew.Refused → (growth_puts g ≡ 2) × ((x : ℕ) (c : Page) → growth_next g ≢ act.Put x c)
    by GrowthOpenedRefused = (refl, λ x c e. cc)

-- of a turn that puts the anchor of a new top level
abbrev Raises : (P : Type 0) → ℕ → ℕ → Type 0
Raises P old new = P × (new ≤ old + 1)

open_none : (x y : ℕ) (c : Page) → act.Open x ≢ act.Put y c
open_none x y c e = cc

get_none : (x y : ℕ) (c : Page) → act.Get x ≢ act.Put y c
get_none x y c e = cc

post_spends : {level key : ℕ} {a b : PostStage} {what : Seen} → PostCase level key a what b → Spends (post_puts a) (post_next_in a) what (post_puts b) ⊎ Raises (IsRaisingIn a) (post_puts a) (post_puts b)
post_spends (PostBegan a e) = inl (keeps 2 act.Begin seen.Done 2 (omega arith) (λ x c i. cc))
post_spends (PostNoLevel c t) = inl (keeps 2 (act.Get 0) (seen.Words c) 0 (omega arith) (get_none 0))
post_spends (PostTallest c t) = inl (keeps 2 (act.Get 0) (seen.Words c) 0 (omega arith) (get_none 0))
post_spends (PostToGrow c t) = inl (keeps 2 (act.Get 0) (seen.Words c) 2 (omega arith) (get_none 0))
post_spends (PostCame a what b t) = inl (keeps 2 (approach_next a) what 2 (omega arith) (approach_none a))
post_spends (PostListed x parent y l t) = inl (keeps 2 (act.Get x) (seen.Words (InnerPage parent)) 2 (omega arith) (get_none x))
post_spends (PostToWalk x parent v l t) = inl (keeps 2 (act.Get x) (seen.Words (InnerPage parent)) 2 (omega arith) (get_none x))
post_spends (PostGrew g what h t) = elim (growth_spends (growth_case _ g what (grew.On h) t)) [
  | inl s ↦ inl s
  | inr r ↦ inr (subst (λ v. IsRaisingIn (post.Growing v)) (sym r.0.1) tt, r.1)
]
post_spends {level} (PostGrown g what a t) = inl (let n = grown_none g what level t.0 in let two = n.0 in keeps (growth_puts g) (growth_next g) what 2 (omega (arith, two)) n.1)
post_spends {level} (PostNoRoom g what r t) = inl (let n = refused_none g what level t.0 in let two = n.0 in keeps (growth_puts g) (growth_next g) what 0 (omega (arith, two)) n.1)
post_spends (PostWalked w c v t) = inl (keeps 2 (act.Get w.child) (seen.Words c) 2 (omega arith) (get_none w.child))
post_spends (PostEntered w c d t) = inl (keeps 2 (act.Get w.child) (seen.Words c) (edit_puts d) (edit_two d) (get_none w.child))
post_spends (PostStale w c x t) = inl (keeps 2 (act.Get w.child) (seen.Words c) 2 (omega arith) (get_none w.child))
post_spends (PostLost w c a t) = inl (keeps 2 (act.Get w.child) (seen.Words c) 2 (omega arith) (get_none w.child))
post_spends (PostEdited c what d t) = inl (edit_spends (edit_case c what (changed.On d) t))
post_spends (PostFinished c what r t) = inl (over_spends c what t.0 t.1)
post_spends (PostOpened x r last e) = inl (keeps 2 (act.Open x) seen.Done 0 (omega arith) (open_none x))
post_spends (PostEnded r last e) = inl (keeps 0 act.End seen.Done 0 (omega arith) (λ x c i. cc))

-- A lowering: its first put leaves three less
sink_puts : (l : Lowering) (what : Seen) (m : Lowering) → Lowers l what (sank.On m) → Spends (lowering_puts l) (lowering_next l) what (lowering_puts m)
sink_puts lowering.Looking (seen.Words c) m t = subst (λ v. Spends 4 (act.Get 0) (seen.Words c) (lowering_puts v)) (sym t.0) (keeps _ _ _ 4 (omega arith) (get_none 0))
sink_puts lowering.LatchingAnchor seen.Done m t = subst (λ v. Spends 4 (act.Latch 0) seen.Done (lowering_puts v)) (sym t) (keeps _ _ _ 4 (omega arith) (λ x c i. cc))
sink_puts lowering.LatchingAnchor seen.Missed m t = subst (λ v. Spends 4 (act.Latch 0) seen.Missed (lowering_puts v)) (sym t) (keeps _ _ _ 4 (omega arith) (λ x c i. cc))
sink_puts lowering.LatchedAnchor (seen.Words c) (lowering.LatchingTop s) t = keeps 4 (act.Get 0) (seen.Words c) 4 (omega arith) (get_none 0)
sink_puts lowering.LatchedAnchor (seen.Words c) (lowering.OpeningAnchor last) t = keeps 4 (act.Get 0) (seen.Words c) 0 (omega arith) (get_none 0)
sink_puts (lowering.LatchingTop s) seen.Done m t = subst (λ v. Spends 4 (act.Latch s.top) seen.Done (lowering_puts v)) (sym t) (keeps _ _ _ 4 (omega arith) (λ x c i. cc))
sink_puts (lowering.LatchingTop s) seen.Missed m t = subst (λ v. Spends 4 (act.Latch s.top) seen.Missed (lowering_puts v)) (sym t) (keeps _ _ _ 4 (omega arith) (λ x c i. cc))
sink_puts (lowering.LatchedTop s) (seen.Words c) (lowering.PuttingAnchor u) t = keeps 4 (act.Get s.top) (seen.Words c) 4 (omega arith) (get_none s.top)
sink_puts (lowering.LatchedTop s) (seen.Words c) (lowering.OpeningTop x last) t = keeps 4 (act.Get s.top) (seen.Words c) 0 (omega arith) (get_none s.top)
sink_puts (lowering.PuttingAnchor s) seen.Done m t = subst (λ v. Spends 4 (act.Put 0 s.anchor) seen.Done (lowering_puts v)) (sym t) (less _ _ _ 1 (omega arith))
sink_puts (lowering.PuttingAnchor s) seen.Refused m t = subst (λ v. Spends 4 (act.Put 0 s.anchor) seen.Refused (lowering_puts v)) (sym t) (less _ _ _ 0 (omega arith))
sink_puts (lowering.PuttingDead s) seen.Done m t = subst (λ v. Spends 1 (act.Put s.top s.dead) seen.Done (lowering_puts v)) (sym t) (less _ _ _ 0 (omega arith))
sink_puts (lowering.Retiring x) seen.Done m t = subst (λ v. Spends 0 (act.Retire x) seen.Done (lowering_puts v)) (sym t) (keeps _ _ _ 0 (omega arith) (λ z c i. cc))
sink_puts (lowering.OpeningTop x last) seen.Done m t = subst (λ v. Spends 0 (act.Open x) seen.Done (lowering_puts v)) (sym t) (keeps _ _ _ 0 (omega arith) (open_none x))
sink_puts (lowering.OpeningAnchor last) seen.Done m t = absurd t
sink_puts l what m t = absurd t

-- a lowering that is over
sunk_puts : (l : Lowering) (what : Seen) (r : Lowered) → Lowers l what (sank.Over r) → Spends (lowering_puts l) (lowering_next l) what 0
sunk_puts lowering.Looking (seen.Words c) r t = keeps 4 (act.Get 0) (seen.Words c) 0 (omega arith) (get_none 0)
sunk_puts (lowering.OpeningAnchor last) seen.Done r t = keeps 0 (act.Open 0) seen.Done 0 (omega arith) (open_none 0)
sunk_puts lowering.LatchingAnchor seen.Done r t = absurd t
sunk_puts lowering.LatchingAnchor seen.Missed r t = absurd t
sunk_puts lowering.LatchedAnchor (seen.Words c) r t = absurd t
sunk_puts (lowering.LatchingTop s) seen.Done r t = absurd t
sunk_puts (lowering.LatchingTop s) seen.Missed r t = absurd t
sunk_puts (lowering.LatchedTop s) (seen.Words c) r t = absurd t
sunk_puts (lowering.PuttingAnchor s) seen.Done r t = absurd t
sunk_puts (lowering.PuttingAnchor s) seen.Refused r t = absurd t
sunk_puts (lowering.PuttingDead s) seen.Done r t = absurd t
sunk_puts (lowering.Retiring x) seen.Done r t = absurd t
sunk_puts (lowering.OpeningTop x last) seen.Done r t = absurd t
sunk_puts l what r t = absurd t

-- A compression

pub decision_three : (d : Decision) → decision_puts d ≤ 3
decision_three (decision.Merged h) = omega arith
decision_three decision.Evened = omega arith
decision_three decision.Enough = omega arith
decision_three (decision.Unposted h) = omega arith
decision_three decision.Refused = omega arith
decision_three decision.Lost = omega arith

after_is : (at : Siblings) (d : Decision) → compression_puts (after_puts at d) ≡ decision_puts d
after_is at (decision.Merged h) = refl
after_is at decision.Evened = refl
after_is at decision.Enough = refl
after_is at (decision.Unposted h) = refl
after_is at decision.Refused = refl
after_is at decision.Lost = refl

links_puts : (f : Family) (c : Page) (new : Compression) → Links f c new → compression_puts new ≤ 3
links_puts f c (compression.LatchingRight g page) t = omega arith
links_puts f c (compression.OpeningLeft at d) t = decision_three d
links_puts f c old t = absurd t

decides_puts : (f : Family) (c d : Page) (new : Compression) → Decides f c d new → compression_puts new ≤ 3
decides_puts f c d (compression.PuttingFirst p) t = elim t [
  | inl m ↦ (let none : decision_puts p.decision ≡ 0 = ap decision_puts m.1.decision in omega (arith, none))
  | inr v ↦ (let none : decision_puts p.decision ≡ 0 = ap decision_puts v.decision in omega (arith, none))
]
decides_puts f c d (compression.OpeningRight at e) t = decision_three e
decides_puts f c d old t = absurd t

latch_none : (x y : ℕ) (c : Page) → act.Latch x ≢ act.Put y c
latch_none x y c e = cc

compression_spends : {c d : Compression} {what : Seen} → CompressionCase c what (step.On d) → Spends (compression_puts c) (compression_next c) what (compression_puts d)
compression_spends (CompressionLatchLeft f new e) = subst (λ v. Spends 3 (act.Latch f.at.left) seen.Done (compression_puts v)) (sym e) (keeps _ _ _ 3 (omega arith) (latch_none f.at.left))
compression_spends (CompressionMissLeft f new e) = subst (λ v. Spends 3 (act.Latch f.at.left) seen.Missed (compression_puts v)) (sym e) (keeps _ _ _ 3 (omega arith) (latch_none f.at.left))
compression_spends (CompressionLeaveLeft f new e) = subst (λ v. Spends 3 (act.Latch f.at.left) seen.Missed (compression_puts v)) (sym e) (keeps _ _ _ 3 (omega arith) (latch_none f.at.left))
compression_spends (CompressionGotLeft f c new t) = keeps 3 (act.Get f.at.left) (seen.Words c) (compression_puts new) (links_puts f c new t) (get_none f.at.left)
compression_spends (CompressionLatchRight f c new e) = subst (λ v. Spends 3 (act.Latch f.at.right) seen.Done (compression_puts v)) (sym e) (keeps _ _ _ 3 (omega arith) (latch_none f.at.right))
compression_spends (CompressionMissRight f c new e) = subst (λ v. Spends 3 (act.Latch f.at.right) seen.Missed (compression_puts v)) (sym e) (keeps _ _ _ 3 (omega arith) (latch_none f.at.right))
compression_spends (CompressionLeaveRight f c new e) = subst (λ v. Spends 3 (act.Latch f.at.right) seen.Missed (compression_puts v)) (sym e) (keeps _ _ _ 3 (omega arith) (latch_none f.at.right))
compression_spends (CompressionGotRight f c d new t) = keeps 3 (act.Get f.at.right) (seen.Words d) (compression_puts new) (decides_puts f c d new t) (get_none f.at.right)
compression_spends (CompressionPutFirst p new e) = subst (λ v. Spends (3 + decision_puts p.decision) (put_of p.gains p) seen.Done (compression_puts v)) (sym e) (less _ _ _ (2 + decision_puts p.decision) (omega arith))
compression_spends (CompressionFirstRefused p new e) = subst (λ v. Spends (3 + decision_puts p.decision) (put_of p.gains p) seen.Refused (compression_puts v)) (sym e) (less _ _ _ 0 (omega arith))
compression_spends (CompressionPutParent p new e) = subst (λ v. Spends (2 + decision_puts p.decision) (act.Put p.at.parent p.parent) seen.Done (compression_puts v)) (sym e) (less _ _ _ (1 + decision_puts p.decision) (omega arith))
compression_spends (CompressionPutLast p new e) = subst (λ v. Spends (1 + decision_puts p.decision) (put_of (other p.gains) p) seen.Done (compression_puts v)) (sym e) (less _ _ _ (compression_puts (after_puts p.at p.decision)) (let same = after_is p.at p.decision in omega (arith, same)))
compression_spends (CompressionRetired at d new e) = subst (λ v. Spends (decision_puts d) (act.Retire at.right) seen.Done (compression_puts v)) (sym e) (keeps _ _ _ (decision_puts d) (omega arith) (λ x c i. cc))
compression_spends (CompressionOpenedRight at d new e) = subst (λ v. Spends (decision_puts d) (act.Open at.right) seen.Done (compression_puts v)) (sym e) (keeps _ _ _ (decision_puts d) (omega arith) (open_none at.right))
compression_spends (CompressionOpenedLeft at d new e) = subst (λ v. Spends (decision_puts d) (act.Open at.left) seen.Done (compression_puts v)) (sym e) (keeps _ _ _ (decision_puts d) (omega arith) (open_none at.left))

-- it is over when it opens the parent
over_compression : (waits : Bool) (what : Seen) (c : Compression) (last : Decision) → Compresses waits c what (step.Over last) → (compression_puts c ≡ decision_puts last) × ((x : ℕ) (page : Page) → compression_next c ≢ act.Put x page)
over_compression waits what c last t = by (compression_case waits c what (step.Over last) t)
  where
    by : {what : Seen} {c : Compression} {last : Decision} → CompressionCase c what (step.Over last) → (compression_puts c ≡ decision_puts last) × ((x : ℕ) (page : Page) → compression_next c ≢ act.Put x page)
    by (CompressionOpenedParent x d last e) = (ap decision_puts (sym e), open_none x)

lost_is : (d : Decision) → compress_reply d ≡ None → decision_puts d ≡ 3
lost_is (decision.Merged h) e = absurd (cc e)
lost_is decision.Evened e = absurd (cc e)
lost_is decision.Enough e = absurd (cc e)
lost_is (decision.Unposted h) e = absurd (cc e)
lost_is decision.Refused e = absurd (cc e)
lost_is decision.Lost e = refl

compress_spends : {level key : ℕ} {waits : Bool} {a b : CompressStage} {what : Seen} → CompressCase level key waits a what b → Spends (compress_puts a) (compress_next_in a) what (compress_puts b)
compress_spends (CompressBegan a e) = keeps 3 act.Begin seen.Done 3 (omega arith) (λ x c i. cc)
compress_spends (CompressNoLevel c t) = keeps 3 (act.Get 0) (seen.Words c) 0 (omega arith) (get_none 0)
compress_spends (CompressCame a what b t) = keeps 3 (approach_next a) what 3 (omega arith) (approach_none a)
compress_spends (CompressMet x parent f l t) = keeps 3 (act.Get x) (seen.Words (InnerPage parent)) 3 (omega arith) (get_none x)
compress_spends (CompressSingle x parent y l t) = keeps 3 (act.Get x) (seen.Words (InnerPage parent)) 0 (omega arith) (get_none x)
compress_spends (CompressWentOn c what d t) = compression_spends (compression_case _ c what (step.On d) t)
compress_spends {waits = waits} (CompressLost c what a t) = (let over = over_compression waits what c t.0 t.1 in let same = over.0 in let three = lost_is t.0 t.2 in keeps (compression_puts c) (compression_next c) what 3 (omega (arith, same, three)) over.1)
compress_spends {waits = waits} (CompressFinished c what r t) = (let over = over_compression waits what c t.0 t.1 in keeps (compression_puts c) (compression_next c) what 0 (omega arith) over.1)
compress_spends (CompressOpened x r e) = keeps 0 (act.Open x) seen.Done 0 (omega arith) (open_none x)
compress_spends (CompressEnded r last e) = keeps 0 act.End seen.Done 0 (omega arith) (λ x c i. cc)

lower_spends : {a b : LowerStage} {what : Seen} → LowerCase a what b → Spends (lower_puts a) (lower_next_in a) what (lower_puts b)
lower_spends (LowerBegan l e) = subst (λ v. Spends 4 act.Begin seen.Done (lowering_puts v)) (sym e) (keeps _ _ _ 4 (omega arith) (λ x c i. cc))
lower_spends (LowerSank l what m t) = sink_puts l what m t
lower_spends (LowerFinished l what r t) = sunk_puts l what r t
lower_spends (LowerEnded r last e) = keeps 0 act.End seen.Done 0 (omega arith) (λ x c i. cc)

-- An insertion with posts

-- so many more on both sides
more : (old : ℕ) (next : Action) (what : Seen) (new extra : ℕ) → Spends old next what new → Spends (old + extra) next what (new + extra)
more old next what new extra s = (let kept = s.kept in record { kept = omega (arith, kept); spent = λ x c d e. (let l = s.spent x c d e in omega (arith, l)) })

-- what is left when a part of it is over
over_by : (old : ℕ) (next : Action) (what : Seen) (extra new : ℕ) → Spends old next what 0 → new ≤ extra → Spends (old + extra) next what new
over_by old next what extra new s few = record { kept = omega (arith, few); spent = λ x c d e. (let l = s.spent x c d e in omega (arith, l, few)) }

-- the first post is of level 1
first_level : (noted : Noted) (o : Outcome) (there : Option ℕ) (level key : ℕ) → written.Done there (Some (hint.Post level key)) ≡ write_reply noted o → level ≡ 1
first_level noted outcome.Edited there level key e = absurd (not_thin noted.thin there noted.there level key e)
first_level noted (outcome.SplitAt s) there level key e = cc
first_level noted outcome.Refused there level key e = absurd (cc e)

split_spends : {key : ℕ} {does : KeyWrite} {a : WriteStage} {what : Seen} {there : Option ℕ} {level separator : ℕ} → WriteCase key does a what (write.Ending (written.Done there (Some (hint.Post level separator)))) → Spends (write_puts a) (write_next_in a) what 0 × (level ≡ 1)
split_spends (WriteOpened x there r e) = absurd (cc e)
split_spends (WriteFinished noted c what r t) = (over_spends c what t.0 t.1, first_level noted t.0 _ _ _ t.2)

-- a post that is over has raised nothing
ended_spends : {level key : ℕ} {a : PostStage} {r : PostReply} {what : Seen} → PostCase level key a what (post.Ending r) → Spends (post_puts a) (post_next_in a) what 0
ended_spends (PostNoLevel c t) = keeps 2 (act.Get 0) (seen.Words c) 0 (omega arith) (get_none 0)
ended_spends (PostTallest c t) = keeps 2 (act.Get 0) (seen.Words c) 0 (omega arith) (get_none 0)
ended_spends {level} (PostNoRoom g what r t) = (let n = refused_none g what level t.0 in let two = n.0 in keeps (growth_puts g) (growth_next g) what 0 (omega (arith, two)) n.1)
ended_spends (PostFinished c what r t) = over_spends c what t.0 t.1
ended_spends (PostOpened x r last e) = keeps 2 (act.Open x) seen.Done 0 (omega arith) (open_none x)

climb_spends : {path : Path} {a b : ClimbStage} {what : Seen} → ClimbCase path a what b → Spends (climb_puts a) (climb_next_in a) what (climb_puts b) ⊎ Raises (IsRaisingUp a) (climb_puts a) (climb_puts b)
climb_spends (ClimbWrote v what u h k) = inl (more (write_puts v.stage) (write_next_in v.stage) what (write_puts u.stage) 24 (write_spends h))
climb_spends {path} (ClimbSplit v what there level separator q h from) =
    let s = split_spends h in
    let one : q.level ≡ 1 = from.0 ∙ s.1 in
    let puts : post_puts q.stage ≡ 2 = ap post_puts from.2 in
    inl (over_by (write_puts v.stage) (write_next_in v.stage) what 24 (post_puts q.stage + 2 * (12 - q.level)) s.0 (omega (arith, one, puts)))
climb_spends (ClimbUnsplit v what r last h k) = inl (over_by (write_puts v.stage) (write_next_in v.stage) what 24 0 (write_spends h) (omega arith))
climb_spends (ClimbPosted u what q h k) =
    let level : q.level ≡ u.level = k.0 in
    elim (post_spends h) [
      | inl s ↦ inl (subst (λ z. Spends (post_puts u.stage + 2 * (12 - u.level)) (post_next_in u.stage) what (post_puts q.stage + 2 * (12 - z))) (sym level) (more (post_puts u.stage) (post_next_in u.stage) what (post_puts q.stage) (2 * (12 - u.level)) s))
      | inr r ↦ inr (r.0, subst (λ z. post_puts q.stage + 2 * (12 - z) ≤ post_puts u.stage + 2 * (12 - u.level) + 1) (sym level) (let few = r.1 in omega (arith, few)))
    ]
climb_spends {path} (ClimbHigher u what separator q h from) =
    let up : q.level ≡ u.level + 1 = from.0 in
    let puts : post_puts q.stage ≡ 2 = ap post_puts from.2 in
    let top = q.most in
    inl (over_by (post_puts u.stage) (post_next_in u.stage) what (2 * (12 - u.level)) (post_puts q.stage + 2 * (12 - q.level)) (ended_spends h) (omega (arith, up, puts, top)))
climb_spends (ClimbFinished u what r last h k) = inl (over_by (post_puts u.stage) (post_next_in u.stage) what (2 * (12 - u.level)) 0 (ended_spends h) (omega arith))
climb_spends (ClimbEnded r last e) = inl (keeps 0 act.End seen.Done 0 (omega arith) (λ x c i. cc))

find_none : (a : FindStage) (x : ℕ) (c : Page) → find_next_in a ≢ act.Put x c
find_none find.New x c e = cc
find_none (find.Near y) x c e = cc
find_none (find.Probing y) x c e = cc
find_none (find.Descending d) x c e = cc
find_none (find.Ending v) x c e = cc
find_none (find.Over v) x c e = cc

part_none : (a : PartStage) (x : ℕ) (c : Page) → part_next_in a ≢ act.Put x c
part_none part.New x c e = cc
part_none (part.Near y) x c e = cc
part_none (part.Probing y) x c e = cc
part_none (part.Descending d) x c e = cc
part_none (part.Ending r) x c e = cc
part_none (part.Over r) x c e = cc

reclaim_none : (page : ℕ) (a : ReclaimStage) (x : ℕ) (c : Page) → reclaim_next_in page a ≢ act.Put x c
reclaim_none page reclaim.Seeing x c e = cc
reclaim_none page (reclaim.Looking r) x c e = cc
reclaim_none page reclaim.Releasing x c e = cc
reclaim_none page (reclaim.Over what) x c e = cc

pub spends : (old new : Proc) (what : Seen) → Takes old what new → Spends (puts_of old) (next_of old) what (puts_of new) ⊎ Raises (IsRaising old) (puts_of old) (puts_of new)
spends (proc.Find a) (proc.Find b) what t = inl (keeps 0 (next_of (proc.Find a)) what 0 (omega arith) (find_none a.stage))
spends (proc.Part a) (proc.Part b) what t = inl (keeps 0 (next_of (proc.Part a)) what 0 (omega arith) (part_none a.stage))
spends (proc.Reclaim a) (proc.Reclaim b) what t = inl (keeps 0 (next_of (proc.Reclaim a)) what 0 (omega arith) (reclaim_none a.page a.stage))
spends (proc.Write a) (proc.Write b) what t = inl (write_spends (write_case a.key a.write a.stage what b.stage t.2))
spends (proc.Post a) (proc.Post b) what t = post_spends (post_case a.level a.key a.stage what b.stage t.2)
spends (proc.Compress a) (proc.Compress b) what t = inl (compress_spends (compress_case a.level a.key a.waits a.stage what b.stage t.3))
spends (proc.Lower a) (proc.Lower b) what t = inl (lower_spends (lower_case a.stage what b.stage t))
spends (proc.InsertPost a) (proc.InsertPost b) what t = climb_spends (climb_case b.path a.stage what b.stage t.3)
spends old new what t = absurd t
