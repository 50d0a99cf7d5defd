-- Each turn of a process that holds pages brings it nearer to holding none.
use Rattle.std.proofs.Common.{ℕ, zero, suc, ◌≡◌, ◌≢◌, ◌+◌, ◌<◌, ◌≤◌, Bool, arith, refl, inl, inr, sym, subst}
use Rattle.bl_model.specs.declared.deciding.KeyWrite.{KeyWrite}
use Rattle.bl_page.specs.declared.page.Page.{Page}
use Rattle.bl_proc_steps.specs.declared.acts.Seen.{Seen}
use Rattle.bl_proc_steps.specs.declared.acts.Seen.TheVariants as seen
use Rattle.bl_proc_steps.specs.declared.approach.Approach.{Approach}
use Rattle.bl_proc_steps.specs.declared.approach.Approached.TheVariants as came
use Rattle.bl_proc_steps.specs.declared.edit.Edit.{Edit}
use Rattle.bl_proc_steps.specs.declared.edit.Edit.TheVariants as edit
use Rattle.bl_proc_steps.specs.declared.edit.Edited.TheVariants as changed
use Rattle.bl_proc_steps.specs.declared.growth.Growth.{Growth}
use Rattle.bl_proc_steps.specs.declared.growth.Grew.TheVariants as grew
use Rattle.bl_proc_steps.specs.declared.lowering.Lowering.{Lowering}
use Rattle.bl_proc_steps.specs.declared.lowering.Lowering.TheVariants as lowering
use Rattle.bl_proc_steps.specs.declared.lowering.Sank.TheVariants as sank
use Rattle.bl_proc_steps.specs.Lowerings.{Lowers}
use Rattle.bl_proc_compress.specs.declared.compression.Compression.{Compression}
use Rattle.bl_proc_compress.specs.declared.compression.Compression.TheVariants as compression
use Rattle.bl_proc_compress.specs.declared.compression.Compressed.TheVariants as step
use Rattle.bl_rearrange.specs.declared.families.Family.{Family}
use Rattle.bl_rearrange.specs.declared.families.Siblings.{Siblings}
use Rattle.bl_proc_compress.specs.declared.compression.Decision.{Decision}
use Rattle.bl_proc_compress.specs.declared.compression.Decision.TheVariants as decision
use Rattle.bl_proc_compress.specs.declared.compress.CompressStage.{CompressStage}
use Rattle.bl_proc_compress.specs.Compressions.{Links, Decides, after_puts}
use Rattle.bl_proc_writes.specs.declared.writing.WriteStage.{WriteStage}
use Rattle.bl_proc_writes.specs.declared.post.PostStage.{PostStage}
use Rattle.bl_proc_writes.specs.declared.post.PostStage.TheVariants as post
use Rattle.bl_proc_writes.specs.declared.insert_post.ClimbStage.{ClimbStage}
use Rattle.bl_proc_writes.specs.declared.paths.Path.{Path}
use Rattle.bl_proc_writes.specs.Paths.{from_page, page_at}
use Rattle.bl_proc.specs.declared.lowering.LowerStage.{LowerStage}
use Rattle.bl_proc.specs.declared.kinds.Proc.{Proc}
use Rattle.bl_proc.specs.declared.kinds.Proc.TheVariants as proc
use Rattle.bl_proc.specs.Processes.{Takes}
use Rattle.bl_proc_deterministic.proofs.WayCases.{ApproachCase, approach_case, EditCase, edit_case, GrowthCase, growth_case, CompressionCase, compression_case}
use Rattle.bl_proc_deterministic.proofs.WayCases.ApproachCase.{Entered as ApproachEntered, LatchedPage as ApproachLatchedPage, MissedPage as ApproachMissedPage, OpenedFor as ApproachOpenedFor, OpenedLost as ApproachOpenedLost, Quitted as ApproachQuitted, Turned as ApproachTurned}
use Rattle.bl_proc_deterministic.proofs.WayCases.EditCase.{OpenedNew as EditOpenedNew, Put as EditPut, PutNew as EditPutNew, PutOld as EditPutOld, PutRefused as EditPutRefused, TakeRefused as EditTakeRefused, Took as EditTook}
use Rattle.bl_proc_deterministic.proofs.WayCases.GrowthCase.{LatchedAnchor as GrowthLatchedAnchor, Missed as GrowthMissed, OpenedTop as GrowthOpenedTop, PutAnchor as GrowthPutAnchor, PutTop as GrowthPutTop, Rises as GrowthRises, Stands as GrowthStands, TookTop as GrowthTookTop, TopRefused as GrowthTopRefused}
use Rattle.bl_proc_deterministic.proofs.WayCases.CompressionCase.{FirstRefused as CompressionFirstRefused, GotLeft as CompressionGotLeft, GotRight as CompressionGotRight, LatchLeft as CompressionLatchLeft, LatchRight as CompressionLatchRight, LeaveLeft as CompressionLeaveLeft, LeaveRight as CompressionLeaveRight, MissLeft as CompressionMissLeft, MissRight as CompressionMissRight, OpenedLeft as CompressionOpenedLeft, OpenedRight as CompressionOpenedRight, PutFirst as CompressionPutFirst, PutLast as CompressionPutLast, PutParent as CompressionPutParent, Retired as CompressionRetired}
use Rattle.bl_proc_deterministic.proofs.KindCases.{WriteCase, write_case, PostCase, post_case, CompressCase, compress_case, LowerCase, lower_case, ClimbCase, climb_case}
use Rattle.bl_proc_deterministic.proofs.KindCases.WriteCase.{Began as WriteBegan, Came as WriteCame, Changed as WriteChanged, Edited as WriteEdited, Ended as WriteEnded, Finished as WriteFinished, Kept as WriteKept, Opened as WriteOpened}
use Rattle.bl_proc_deterministic.proofs.KindCases.PostCase.{Began as PostBegan, Came as PostCame, Edited as PostEdited, Ended as PostEnded, Entered as PostEntered, Finished as PostFinished, Grew as PostGrew, Grown as PostGrown, Listed as PostListed, Lost as PostLost, NoLevel as PostNoLevel, NoRoom as PostNoRoom, Opened as PostOpened, Stale as PostStale, Tallest as PostTallest, ToGrow as PostToGrow, ToWalk as PostToWalk, Walked as PostWalked}
use Rattle.bl_proc_deterministic.proofs.KindCases.CompressCase.{Began as CompressBegan, Came as CompressCame, Ended as CompressEnded, Finished as CompressFinished, Lost as CompressLost, Met as CompressMet, NoLevel as CompressNoLevel, Opened as CompressOpened, Single as CompressSingle, WentOn as CompressWentOn}
use Rattle.bl_proc_deterministic.proofs.KindCases.LowerCase.{Began as LowerBegan, Ended as LowerEnded, Finished as LowerFinished, Sank as LowerSank}
use Rattle.bl_proc_deterministic.proofs.KindCases.ClimbCase.{Ended as ClimbEnded, Finished as ClimbFinished, Higher as ClimbHigher, Posted as ClimbPosted, Split as ClimbSplit, Unsplit as ClimbUnsplit, Wrote as ClimbWrote}
use Rattle.bl_page.specs.Machine.{Name}
use Rattle.bl_page.specs.Machine.Owner.{Held}
use Rattle.bl_tree_worlds.specs.Worlds.{World, HoldsPage, IsGood}
use Rattle.bl_proc_invariant.specs.Knowing.{Run, know}
use Rattle.bl_proc_progress.proofs.Alone.{over_holds}
use Rattle.bl_proc_progress.specs.Holds.{approach_hold, edit_hold, growth_hold, lowering_hold, compression_hold, write_hold, post_hold, compress_hold, lower_hold, climb_hold, hold_of, Nears}

-- A state is one of which it is known that less is left.
below : {A : Type 0} {x y : A} (f : A → ℕ) (n : ℕ) → x ≡ y → f y < n → f x < n
below f n e l = subst (λ z. f z < n) (sym e) l

pub edit_some : (c : Edit) → 0 < edit_hold c
edit_some (edit.Putting x page) = omega arith
edit_some (edit.Taking full) = omega arith
edit_some (edit.PuttingNew p) = omega arith
edit_some (edit.PuttingOld p) = omega arith
edit_some (edit.OpeningNew x new separator) = omega arith
edit_some (edit.Opening x o) = omega arith

pub edit_most : (c : Edit) → edit_hold c < 6
edit_most (edit.Putting x page) = omega arith
edit_most (edit.Taking full) = omega arith
edit_most (edit.PuttingNew p) = omega arith
edit_most (edit.PuttingOld p) = omega arith
edit_most (edit.OpeningNew x new separator) = omega arith
edit_most (edit.Opening x o) = omega arith

pub edit_near : {c d : Edit} {what : Seen} → EditCase c what (changed.On d) → edit_hold d < edit_hold c
edit_near (EditPut x page new e) = below edit_hold 2 e (omega arith)
edit_near (EditPutRefused x page new e) = below edit_hold 2 e (omega arith)
edit_near (EditTook full y p t) = omega arith
edit_near (EditTakeRefused full new e) = below edit_hold 5 e (omega arith)
edit_near (EditPutNew p new e) = below edit_hold 4 e (omega arith)
edit_near (EditPutOld p new e) = below edit_hold 3 e (omega arith)
edit_near (EditOpenedNew x y separator new e) = below edit_hold 2 e (omega arith)

growth_near : {level : ℕ} {g h : Growth} {what : Seen} → GrowthCase level g what (grew.On h) → 0 < growth_hold g → growth_hold h < growth_hold g
growth_near (GrowthLatchedAnchor new e) some = absurd (omega (arith, some))
growth_near (GrowthMissed new e) some = absurd (omega (arith, some))
growth_near (GrowthRises c rise t) some = omega arith
growth_near (GrowthStands c t) some = omega arith
growth_near (GrowthTookTop rise y r t) some = omega arith
growth_near (GrowthTopRefused rise new e) some = below growth_hold 5 e (omega arith)
growth_near (GrowthPutTop r new e) some = below growth_hold 4 e (omega arith)
growth_near (GrowthPutAnchor r new e) some = below growth_hold 3 e (omega arith)
growth_near (GrowthOpenedTop x new e) some = below growth_hold 2 e (omega arith)

approach_near : {level key : ℕ} {a b : Approach} {what : Seen} (most : ℕ) → 1 < most → ApproachCase level key a what (came.On b) → 0 < approach_hold most a → approach_hold most b < approach_hold most a
approach_near most more (ApproachEntered c a t) some = absurd (omega (arith, some))
approach_near most more (ApproachTurned x c a o l t) some = absurd (omega (arith, some))
approach_near most more (ApproachLatchedPage x a e) some = absurd (omega (arith, some))
approach_near most more (ApproachMissedPage x a e) some = absurd (omega (arith, some))
approach_near most more (ApproachQuitted x c y to t) some = more
approach_near most more (ApproachOpenedFor x y a e) some = below (approach_hold most) 1 e (omega arith)
approach_near most more (ApproachOpenedLost x a e) some = below (approach_hold most) 1 e (omega arith)

write_near : {key : ℕ} {does : KeyWrite} {a b : WriteStage} {what : Seen} → WriteCase key does a what b → 0 < write_hold a → write_hold b < write_hold a
write_near (WriteBegan a e) some = absurd (omega (arith, some))
write_near (WriteCame a what b t) some = approach_near 6 (omega arith) (approach_case 0 _ a what (came.On b) t) some
write_near (WriteKept x c y there l t) some = omega arith
write_near (WriteChanged x c noted d l t) some = edit_most d
write_near (WriteOpened x there r e) some = omega arith
write_near (WriteEdited noted c what same d t) some = edit_near (edit_case c what (changed.On d) t.1)
write_near (WriteFinished noted c what r t) some = edit_some c
write_near (WriteEnded r last e) some = absurd (omega (arith, some))

post_near : {level key : ℕ} {a b : PostStage} {what : Seen} → PostCase level key a what b → 0 < post_hold a → Nears (post_hold a) what (post_hold b)
post_near (PostBegan a e) some = absurd (omega (arith, some))
post_near (PostNoLevel c t) some = absurd (omega (arith, some))
post_near (PostTallest c t) some = absurd (omega (arith, some))
post_near (PostToGrow c t) some = absurd (omega (arith, some))
post_near (PostCame a what b t) some = inl (approach_near 7 (omega arith) (approach_case _ _ a what (came.On b) t) some)
post_near (PostListed x parent y l t) some = inl (omega arith)
post_near (PostToWalk x parent v l t) some = inl (omega arith)
post_near (PostGrew g what h t) some = inl (growth_near (growth_case _ g what (grew.On h) t) some)
post_near (PostGrown g what a t) some = inl (below (approach_hold 7) (growth_hold g) t.1 some)
post_near (PostNoRoom g what r t) some = inl some
post_near (PostWalked w c v t) some = inr (omega arith, inr tt)
post_near (PostEntered w c d t) some = inl (edit_most d)
post_near (PostStale w c x t) some = inl (omega arith)
post_near (PostLost w c a t) some = inl (below (approach_hold 7) 6 t.0 (omega arith))
post_near (PostEdited c what d t) some = inl (edit_near (edit_case c what (changed.On d) t))
post_near (PostFinished c what r t) some = inl (edit_some c)
post_near (PostOpened x r last e) some = inl (omega arith)
post_near (PostEnded r last e) some = absurd (omega (arith, some))

pub links_hold : (f : Family) (c : Page) (new : Compression) → Links f c new → compression_hold new < 9
links_hold f c (compression.LatchingRight g page) t = omega arith
links_hold f c (compression.OpeningLeft at decision) t = omega arith
links_hold f c old t = absurd t

pub decides_hold : (f : Family) (c d : Page) (new : Compression) → Decides f c d new → compression_hold new < 7
decides_hold f c d (compression.PuttingFirst p) t = omega arith
decides_hold f c d (compression.OpeningRight at decision) t = omega arith
decides_hold f c d old t = absurd t

pub after_hold : (at : Siblings) (d : Decision) → compression_hold (after_puts at d) < 4
after_hold at (decision.Merged h) = omega arith
after_hold at decision.Evened = omega arith
after_hold at decision.Enough = omega arith
after_hold at (decision.Unposted h) = omega arith
after_hold at decision.Refused = omega arith
after_hold at decision.Lost = omega arith

pub compression_some : (c : Compression) → 0 < compression_hold c
compression_some (compression.LatchingLeft f) = omega arith
compression_some (compression.LatchedLeft f) = omega arith
compression_some (compression.LatchingRight f c) = omega arith
compression_some (compression.LatchedRight f c) = omega arith
compression_some (compression.PuttingFirst p) = omega arith
compression_some (compression.PuttingParent p) = omega arith
compression_some (compression.PuttingLast p) = omega arith
compression_some (compression.Retiring at decision) = omega arith
compression_some (compression.OpeningRight at decision) = omega arith
compression_some (compression.OpeningLeft at decision) = omega arith
compression_some (compression.OpeningParent x decision) = omega arith

-- it stays as it was, since it missed a latch
stayed : {c d : Compression} → d ≡ c → Nears (compression_hold c) seen.Missed (compression_hold d)
stayed {c} e = inr (subst (λ z. compression_hold z ≤ compression_hold c) (sym e) (omega arith), inl refl)

compression_near : {c d : Compression} {what : Seen} → CompressionCase c what (step.On d) → Nears (compression_hold c) what (compression_hold d)
compression_near (CompressionLatchLeft f new e) = inl (below compression_hold 10 e (omega arith))
compression_near (CompressionMissLeft f new e) = stayed e
compression_near (CompressionLeaveLeft f new e) = inl (below compression_hold 10 e (omega arith))
compression_near (CompressionGotLeft f c new t) = inl (links_hold f c new t)
compression_near (CompressionLatchRight f c new e) = inl (below compression_hold 8 e (omega arith))
compression_near (CompressionMissRight f c new e) = stayed e
compression_near (CompressionLeaveRight f c new e) = inl (below compression_hold 8 e (omega arith))
compression_near (CompressionGotRight f c d new t) = inl (decides_hold f c d new t)
compression_near (CompressionPutFirst p new e) = inl (below compression_hold 6 e (omega arith))
compression_near (CompressionFirstRefused p new e) = inl (below compression_hold 6 e (omega arith))
compression_near (CompressionPutParent p new e) = inl (below compression_hold 5 e (omega arith))
compression_near (CompressionPutLast p new e) = inl (below compression_hold 4 e (after_hold p.at p.decision))
compression_near (CompressionRetired at decision new e) = inl (below compression_hold 3 e (omega arith))
compression_near (CompressionOpenedRight at decision new e) = inl (below compression_hold 3 e (omega arith))
compression_near (CompressionOpenedLeft at decision new e) = inl (below compression_hold 2 e (omega arith))

compress_near : {level key : ℕ} {waits : Bool} {a b : CompressStage} {what : Seen} → CompressCase level key waits a what b → 0 < compress_hold a → Nears (compress_hold a) what (compress_hold b)
compress_near (CompressBegan a e) some = absurd (omega (arith, some))
compress_near (CompressNoLevel c t) some = absurd (omega (arith, some))
compress_near (CompressCame a what b t) some = inl (approach_near 11 (omega arith) (approach_case _ _ a what (came.On b) t) some)
compress_near (CompressMet x parent f l t) some = inl (omega arith)
compress_near (CompressSingle x parent y l t) some = inl (omega arith)
compress_near (CompressWentOn c what d t) some = compression_near (compression_case _ c what (step.On d) t)
compress_near (CompressLost c what a t) some = inl (below (approach_hold 11) (compression_hold c) t.3 (compression_some c))
compress_near (CompressFinished c what r t) some = inl (compression_some c)
compress_near (CompressOpened x r e) some = inl (omega arith)
compress_near (CompressEnded r last e) some = absurd (omega (arith, some))

lowering_near : (l : Lowering) (what : Seen) (m : Lowering) → Lowers l what (sank.On m) → 0 < lowering_hold l → Nears (lowering_hold l) what (lowering_hold m)
lowering_near lowering.Looking what m t some = absurd (omega (arith, some))
lowering_near lowering.LatchingAnchor what m t some = absurd (omega (arith, some))
lowering_near lowering.LatchedAnchor (seen.Words c) (lowering.LatchingTop s) t some = inl (omega arith)
lowering_near lowering.LatchedAnchor (seen.Words c) (lowering.OpeningAnchor last) t some = inl (omega arith)
lowering_near (lowering.LatchingTop s) seen.Done m t some = inl (below lowering_hold 6 t (omega arith))
lowering_near (lowering.LatchingTop s) seen.Missed m t some = inr (subst (λ z. lowering_hold z ≤ 6) (sym t) (omega arith), inl refl)
lowering_near (lowering.LatchedTop s) (seen.Words c) (lowering.PuttingAnchor u) t some = inl (omega arith)
lowering_near (lowering.LatchedTop s) (seen.Words c) (lowering.OpeningTop x last) t some = inl (omega arith)
lowering_near (lowering.PuttingAnchor s) seen.Done m t some = inl (below lowering_hold 4 t (omega arith))
lowering_near (lowering.PuttingAnchor s) seen.Refused m t some = inl (below lowering_hold 4 t (omega arith))
lowering_near (lowering.PuttingDead s) seen.Done m t some = inl (below lowering_hold 3 t (omega arith))
lowering_near (lowering.Retiring x) seen.Done m t some = inl (below lowering_hold 2 t (omega arith))
lowering_near (lowering.OpeningTop x last) seen.Done m t some = inl (below lowering_hold 2 t (omega arith))
lowering_near (lowering.OpeningAnchor last) seen.Done m t some = absurd t
lowering_near l what m t some = absurd t

lower_near : {a b : LowerStage} {what : Seen} → LowerCase a what b → 0 < lower_hold a → Nears (lower_hold a) what (lower_hold b)
lower_near (LowerBegan l e) some = absurd (omega (arith, some))
lower_near (LowerSank l what m t) some = lowering_near l what m t some
lower_near (LowerFinished l what r t) some = inl some
lower_near (LowerEnded r last e) some = absurd (omega (arith, some))

from_hold : (n : ℕ) → approach_hold 7 (from_page n) ≡ 0
from_hold zero = refl
from_hold (suc x) = refl

-- a post that begins holds none
begun_hold : (stage : PostStage) (path : Path) (level n : ℕ) → stage ≡ post.Coming (from_page (page_at path level)) → 0 < n → post_hold stage < n
begun_hold stage path level n e some = below post_hold n e (let h = from_hold (page_at path level) in omega (arith, h, some))

climb_near : {path : Path} {a b : ClimbStage} {what : Seen} → ClimbCase path a what b → 0 < climb_hold a → Nears (climb_hold a) what (climb_hold b)
climb_near (ClimbWrote w what v t u) some = inl (write_near t some)
climb_near {path} (ClimbSplit w what there level separator p t u) some = inl (begun_hold p.stage path level (write_hold w.stage) u.2 some)
climb_near (ClimbUnsplit w what r last t u) some = inl some
climb_near (ClimbPosted p what q t u) some = post_near t some
climb_near {path} (ClimbHigher p what separator q t u) some = inl (begun_hold q.stage path (p.level + 1) (post_hold p.stage) u.2 some)
climb_near (ClimbFinished p what r last t u) some = inl some
climb_near (ClimbEnded r last e) some = absurd (omega (arith, some))

pub nears : (old new : Proc) (what : Seen) → Takes old what new → 0 < hold_of old → Nears (hold_of old) what (hold_of new)
nears (proc.Find a) (proc.Find b) what t some = absurd (omega (arith, some))
nears (proc.Part a) (proc.Part b) what t some = absurd (omega (arith, some))
nears (proc.Reclaim a) (proc.Reclaim b) what t some = absurd (omega (arith, some))
nears (proc.Write a) (proc.Write b) what t some = inl (write_near (write_case a.key a.write a.stage what b.stage t.2) some)
nears (proc.Post a) (proc.Post b) what t some = post_near (post_case a.level a.key a.stage what b.stage t.2) some
nears (proc.Compress a) (proc.Compress b) what t some = compress_near (compress_case a.level a.key a.waits a.stage what b.stage t.3) some
nears (proc.Lower a) (proc.Lower b) what t some = lower_near (lower_case a.stage what b.stage t) some
nears (proc.InsertPost a) (proc.InsertPost b) what t some = climb_near (climb_case b.path a.stage what b.stage t.3) some
nears old new what t some = absurd t

-- and of whose turns none is left holds none
pub holds_none : (w : World Run) (p : Name) (x : ℕ) → IsGood know w → hold_of (w.proc p).state ≡ 0 → w.now.owner x ≢ Held p
holds_none w p x g none held =
    let r = w.proc p in
    subst (λ hs. HoldsPage hs x) (over_holds r.got r.child r.time r.state none) (g.owned.held x p held)
