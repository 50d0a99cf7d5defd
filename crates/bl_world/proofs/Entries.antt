-- What a process has said, by its state: its own operation, with the reply that it answers.
use Rattle.std.proofs.Common.{ℕ, ◌≡◌, ◌⊎◌, Option, Some, None, List, [], ap, sym, ◌∙◌, refl, inl, inr}
use Rattle.bl_model.specs.declared.operation.Op.TheVariants as op
use Rattle.bl_model.specs.declared.operation.Reply.{Reply}
use Rattle.bl_model.specs.declared.deciding.KeyWrite.{KeyWrite}
use Rattle.bl_model.specs.Writes.{write_op}
use Rattle.bl_page.specs.declared.page.Page.{Page}
use Rattle.bl_claims.specs.Trails.{Said}
use Rattle.bl_tree_worlds.specs.Worlds.{Goes, Stage}
use Rattle.bl_proc_steps.specs.declared.approach.Approach.{Approach}
use Rattle.bl_proc_steps.specs.declared.approach.Approach.TheVariants as way
use Rattle.bl_proc_steps.specs.declared.edit.Outcome.{Outcome}
use Rattle.bl_proc_steps.specs.declared.edit.Edit.{Edit}
use Rattle.bl_proc_steps.specs.declared.edit.Edit.TheVariants as edit
use Rattle.bl_proc_steps.specs.declared.growth.Growth.{Growth}
use Rattle.bl_proc_steps.specs.declared.growth.Growth.TheVariants as growth
use Rattle.bl_answers.specs.declared.answers.Answer.{Answer}
use Rattle.bl_answers.specs.declared.answers.Answer.TheVariants as answer
use Rattle.bl_answers.specs.declared.answers.Hint.{Hint}
use Rattle.bl_answers.specs.declared.answers.Posted.{Posted}
use Rattle.bl_proc.specs.declared.searching.FindStage.{FindStage}
use Rattle.bl_proc.specs.declared.searching.FindStage.TheVariants as find
use Rattle.bl_proc.specs.declared.parts.PartStage.{PartStage}
use Rattle.bl_proc.specs.declared.parts.PartStart.{PartStart}
use Rattle.bl_proc.specs.declared.parts.PartStage.TheVariants as part
use Rattle.bl_proc_writes.specs.declared.writing.WriteStage.{WriteStage}
use Rattle.bl_proc_writes.specs.declared.writing.WriteStage.TheVariants as write
use Rattle.bl_proc_writes.specs.declared.writing.WriteReply.TheVariants.{Done, NoRoom}
use Rattle.bl_proc_writes.specs.declared.post.PostStage.{PostStage}
use Rattle.bl_proc_writes.specs.declared.post.PostStage.TheVariants as post
use Rattle.bl_proc_writes.specs.declared.post.PostReply.TheVariants as listed
use Rattle.bl_proc_compress.specs.declared.compression.Compression.{Compression}
use Rattle.bl_proc_compress.specs.declared.compression.Compression.TheVariants.{LatchingLeft, LatchedLeft, LatchingRight, LatchedRight, PuttingFirst, PuttingParent, PuttingLast, Retiring, OpeningRight, OpeningLeft, OpeningParent}
use Rattle.bl_proc_compress.specs.declared.compress.CompressReply.TheVariants as compressed
use Rattle.bl_proc_compress.specs.declared.compress.CompressStage.{CompressStage}
use Rattle.bl_proc_compress.specs.declared.compress.CompressStage.TheVariants as compress
use Rattle.bl_proc.specs.declared.reclaiming.ReclaimStage.{ReclaimStage}
use Rattle.bl_proc.specs.declared.reclaiming.ReclaimStage.TheVariants as reclaim
use Rattle.bl_proc_writes.specs.declared.paths.Path.{Path}
use Rattle.bl_proc_writes.specs.declared.insert_post.Climbed.TheVariants as climbed
use Rattle.bl_proc_writes.specs.declared.insert_post.ClimbStage.{ClimbStage}
use Rattle.bl_proc_writes.specs.declared.insert_post.ClimbStage.TheVariants as climb
use Rattle.bl_proc.specs.declared.kinds.Proc.{Proc}
use Rattle.bl_proc_steps.specs.declared.lowering.Lowering.{Lowering}
use Rattle.bl_proc_steps.specs.declared.lowering.Lowering.TheVariants as lowering
use Rattle.bl_proc.specs.declared.lowering.LowerStage.{LowerStage}
use Rattle.bl_proc.specs.declared.lowering.LowerStage.TheVariants as lower
use Rattle.bl_proc.specs.declared.kinds.Proc.TheVariants as proc
use Rattle.bl_proc.specs.Processes.{answer_of}
use Rattle.bl_proc.specs.Searches.{find_answer_in}
use Rattle.bl_proc.specs.Parts.{part_op, part_answer_in}
use Rattle.bl_proc_writes.specs.Writes.{write_answer_in}
use Rattle.bl_proc_writes.specs.Posts.{post_answer_in}
use Rattle.bl_proc_compress.specs.Compresses.{compress_answer_in}
use Rattle.bl_proc.specs.Lowers.{lower_answer_in}
use Rattle.bl_proc_writes.specs.InsertPosts.{climb_answer_in}
use Rattle.bl_proc_writes.specs.declared.insert_post.Placing.{Placing}
use Rattle.bl_proc_writes.specs.Placings.{write_of}
use Rattle.bl_proc.specs.Reclaims.{reclaim_answer_in}
use Rattle.bl_proc_invariant.specs.Tables.{Carried, unsaid, alone, Aim, know_approach, know_edit}
use Rattle.bl_proc_invariant.specs.Compressing.{know_compression}
use Rattle.bl_proc_invariant.specs.Lowering.{know_lowering}
use Rattle.bl_proc_invariant.specs.Knowing.{know_of, know_find, know_part, know_write, know_post, know_compress, know_reclaim, know_lower, know_growth, write_aim, post_aim, path_goes, inserted, know_climb}
use Rattle.bl_world.specs.Accounts.{op_of, HasEnd}

none_said : {X : Type 0} (s : Said) → None ≡ Some s → X
none_said s e = absurd (let f : None ≡ Some s = e in cc)

same_op : (a b : Said) → Some a ≡ Some b → Some a.op ≡ Some b.op
same_op a b e = (let f : a ≡ b = cc in ap (λ z. Some z.op) f)

approach_said : (carried : Carried) (level key : ℕ) (a : Approach) → (know_approach carried level key a).said ≡ carried.said
approach_said carried level key way.Start = refl
approach_said carried level key (way.At x) = refl
approach_said carried level key (way.Latching x) = refl
approach_said carried level key (way.Latched x) = refl
approach_said carried level key (way.Leaving x None) = refl
approach_said carried level key (way.Leaving x (Some y)) = refl

-- what it said before its change, or by it
edit_said : (aim : Aim) (got : ℕ → Page) (c : Edit) (s : Said) → (know_edit aim got c).said ≡ Some s → (aim.carried.said ≡ Some s) ⊎ ((o : Outcome) × (aim.said o ≡ Some s))
edit_said aim got (edit.Putting x page) s e = inl e
edit_said aim got (edit.Taking full) s e = inl e
edit_said aim got (edit.PuttingNew t) s e = inl e
edit_said aim got (edit.PuttingOld t) s e = inl e
edit_said aim got (edit.OpeningNew x y k) s e = inr (_, e)
edit_said aim got (edit.Opening x o) s e = inr (_, e)

growth_said : (carried : Carried) (level key : ℕ) (got : ℕ → Page) (g : Growth) → (know_growth carried level key got g).said ≡ carried.said
growth_said carried level key got growth.Latching = refl
growth_said carried level key got growth.Latched = refl
growth_said carried level key got (growth.Taking r) = refl
growth_said carried level key got (growth.PuttingTop r) = refl
growth_said carried level key got (growth.PuttingAnchor r) = refl
growth_said carried level key got (growth.OpeningTop x) = refl
growth_said carried level key got growth.OpeningGrown = refl
growth_said carried level key got growth.OpeningRefused = refl

compression_said : (level key : ℕ) (got : ℕ → Page) (c : Compression) → (know_compression level key got c).said ≡ None
compression_said level key got (LatchingLeft f) = refl
compression_said level key got (LatchedLeft f) = refl
compression_said level key got (LatchingRight f page) = refl
compression_said level key got (LatchedRight f page) = refl
compression_said level key got (PuttingFirst u) = refl
compression_said level key got (PuttingParent u) = refl
compression_said level key got (PuttingLast u) = refl
compression_said level key got (Retiring at end) = refl
compression_said level key got (OpeningRight at end) = refl
compression_said level key got (OpeningLeft at end) = refl
compression_said level key got (OpeningParent x end) = refl

-- Its own operation

find_op : (k : ℕ) (a : FindStage) (s : Said) → (know_find k a).said ≡ Some s → Some (op.Find k) ≡ Some s.op
find_op k find.New s e = none_said s e
find_op k (find.Near x) s e = none_said s e
find_op k (find.Probing x) s e = none_said s e
find_op k (find.Descending d) s e = none_said s e
find_op k (find.Ending v) s e = same_op _ s e
find_op k (find.Over v) s e = same_op _ s e

part_op_said : (k : PartStart) (a : PartStage) (s : Said) → (know_part k a).said ≡ Some s → Some (part_op k) ≡ Some s.op
part_op_said k part.New s e = none_said s e
part_op_said k (part.Near x) s e = none_said s e
part_op_said k (part.Probing x) s e = none_said s e
part_op_said k (part.Descending d) s e = none_said s e
part_op_said k (part.Ending r) s e = same_op _ s e
part_op_said k (part.Over r) s e = same_op _ s e

write_says : (goes : List Goes) (k : ℕ) (does : KeyWrite) (got : ℕ → Page) (a : WriteStage) (s : Said) → (know_write goes k does got a).said ≡ Some s → Some (write_op k does) ≡ Some s.op
write_says goes k does got write.New s e = none_said s e
write_says goes k does got (write.Coming a) s e = none_said s (sym (approach_said (unsaid goes) 0 k a) ∙ e)
write_says goes k does got (write.Keeping x there) s e = same_op _ s e
write_says goes k does got (write.Editing noted c) s e = elim (edit_said (write_aim goes k does noted) got c s e) [ inl before ↦ none_said s before | inr by ↦ same_op _ s by.1 ]
write_says goes k does got (write.Ending r) s e = same_op _ s e
write_says goes k does got (write.Over r) s e = same_op _ s e

-- A post says nothing, and keeps what was said before it.
post_keeps : (carried : Carried) (l k : ℕ) (got : ℕ → Page) (child : ℕ) (a : PostStage) (s : Said) → (know_post carried l k got child a).said ≡ Some s → carried.said ≡ Some s
post_keeps carried l k got child post.New s e = e
post_keeps carried l k got child (post.Coming a) s e = sym (approach_said carried l k a) ∙ e
post_keeps carried l k got child (post.Growing g) s e = sym (growth_said carried l k got g) ∙ e
post_keeps carried l k got child (post.Walking w) s e = e
post_keeps carried l k got child (post.Editing c) s e = elim (edit_said (post_aim carried l k child) got c s e) [ inl before ↦ before | inr by ↦ by.1 ]
post_keeps carried l k got child (post.Staying x r) s e = e
post_keeps carried l k got child (post.Ending r) s e = e
post_keeps carried l k got child (post.Over r) s e = e

climb_says : (k : ℕ) (placing : Placing) (path : Path) (got : ℕ → Page) (child : ℕ) (a : ClimbStage) (s : Said) → (know_climb k placing path got child a).said ≡ Some s → Some (write_op k (write_of placing)) ≡ Some s.op
climb_says k placing path got child (climb.Writing w) s e = write_says (path_goes path) k (write_of placing) got w.stage s e
climb_says k placing path got child (climb.Posting p) s e = same_op _ s (post_keeps (inserted k placing path) p.level p.key got child p.stage s e)
climb_says k placing path got child (climb.Ending r) s e = same_op _ s e
climb_says k placing path got child (climb.Over r) s e = same_op _ s e

compress_none : {X : Type 0} (l k : ℕ) (got : ℕ → Page) (a : CompressStage) (s : Said) → (know_compress l k got a).said ≡ Some s → X
compress_none l k got compress.New s e = none_said s e
compress_none l k got (compress.Coming a) s e = none_said s (sym (approach_said alone l k a) ∙ e)
compress_none l k got (compress.Compressing c) s e = none_said s (sym (compression_said l k got c) ∙ e)
compress_none l k got (compress.Staying x) s e = none_said s e
compress_none l k got (compress.Ending r) s e = none_said s e
compress_none l k got (compress.Over r) s e = none_said s e

reclaim_none : {X : Type 0} (time : ℕ) (a : ReclaimStage) (s : Said) → (know_reclaim time a).said ≡ Some s → X
reclaim_none time reclaim.Seeing s e = none_said s e
reclaim_none time (reclaim.Looking r) s e = none_said s e
reclaim_none time reclaim.Releasing s e = none_said s e
reclaim_none time (reclaim.Over what) s e = none_said s e

lowering_said : (got : ℕ → Page) (l : Lowering) → (know_lowering got l).said ≡ None
lowering_said got lowering.Looking = refl
lowering_said got lowering.LatchingAnchor = refl
lowering_said got lowering.LatchedAnchor = refl
lowering_said got (lowering.LatchingTop t) = refl
lowering_said got (lowering.LatchedTop t) = refl
lowering_said got (lowering.PuttingAnchor s) = refl
lowering_said got (lowering.PuttingDead s) = refl
lowering_said got (lowering.Retiring x) = refl
lowering_said got (lowering.OpeningTop x what) = refl
lowering_said got (lowering.OpeningAnchor what) = refl

lower_none : {X : Type 0} (got : ℕ → Page) (a : LowerStage) (s : Said) → (know_lower got a).said ≡ Some s → X
lower_none got lower.New s e = none_said s e
lower_none got (lower.Sinking l) s e = none_said s (sym (lowering_said got l) ∙ e)
lower_none got (lower.Ending r) s e = none_said s e
lower_none got (lower.Over r) s e = none_said s e

pub said_op : (got : ℕ → Page) (child time : ℕ) (p : Proc) (s : Said) → (know_of got child time p).said ≡ Some s → op_of p ≡ Some s.op
said_op got child time (proc.Find p) s e = find_op p.key p.stage s e
said_op got child time (proc.Write p) s e = write_says [] p.key p.write got p.stage s e
said_op got child time (proc.Post p) s e = none_said s (post_keeps alone p.level p.key got child p.stage s e)
said_op got child time (proc.Part p) s e = part_op_said p.from p.stage s e
said_op got child time (proc.Compress p) s e = compress_none p.level p.key got p.stage s e
said_op got child time (proc.Reclaim p) s e = reclaim_none time p.stage s e
said_op got child time (proc.Lower p) s e = lower_none got p.stage s e
said_op got child time (proc.InsertPost p) s e = climb_says p.key p.placing p.path got child p.stage s e

-- What it answers

none_answer : {X : Type 0} (a : Answer) → None ≡ Some a → X
none_answer a e = absurd (let f : None ≡ Some a = e in cc)

abbrev reply_in : Answer → Option Reply
reply_in (answer.Op reply hint) = Some reply
reply_in (answer.Post posted hint) = None
reply_in (answer.Compress squeezed hint) = None
reply_in (answer.Reclaim what) = None
reply_in (answer.Lower what) = None
reply_in (answer.InsertPost reply last left) = Some reply

same_reply : (a b : Reply) (hint other : Option Hint) → Some (answer.Op a hint) ≡ Some (answer.Op b other) → a ≡ b
same_reply a b hint other e =
    let f : answer.Op a hint ≡ answer.Op b other = cc in
    let g : Some a ≡ Some b = ap reply_in f in
    cc

no_post : {X : Type 0} (p : _) (b : Reply) (hint other : Option Hint) → Some (answer.Post p hint) ≡ Some (answer.Op b other) → X
no_post p b hint other e = absurd (let f : answer.Post p hint ≡ answer.Op b other = cc in let g : None ≡ Some b = ap reply_in f in cc)

no_compress : {X : Type 0} (p : _) (b : Reply) (hint other : Option Hint) → Some (answer.Compress p hint) ≡ Some (answer.Op b other) → X
no_compress p b hint other e = absurd (let f : answer.Compress p hint ≡ answer.Op b other = cc in let g : None ≡ Some b = ap reply_in f in cc)

same_inserted : (a b : Reply) (last other : Option Posted) (left hint : Option Hint) → Some (answer.InsertPost a last left) ≡ Some (answer.InsertPost b other hint) → a ≡ b
same_inserted a b last other left hint e =
    let f : answer.InsertPost a last left ≡ answer.InsertPost b other hint = cc in
    let g : Some a ≡ Some b = ap reply_in f in
    cc

-- an answer of the one kind is none of the other
abbrev is_op : Answer → Option Reply
is_op (answer.Op reply hint) = Some reply
is_op (answer.Post posted hint) = None
is_op (answer.Compress squeezed hint) = None
is_op (answer.Reclaim what) = None
is_op (answer.Lower what) = None
is_op (answer.InsertPost reply last left) = None

no_climb : {X : Type 0} (a b : Reply) (last : Option Posted) (left hint : Option Hint) → Some (answer.InsertPost a last left) ≡ Some (answer.Op b hint) → X
no_climb a b last left hint e = absurd (let f : answer.InsertPost a last left ≡ answer.Op b hint = cc in let g : None ≡ Some b = ap is_op f in cc)

-- it has said that reply to its operation
pub record HasAnswered (said : Option Said) (reply : Reply) : Type 0 where
  pub it : Said
  pub is : said ≡ Some it
  pub reply_is : it.reply ≡ reply

find_answered : (k : ℕ) (a : FindStage) (reply : Reply) (hint : Option Hint) → find_answer_in a ≡ Some (answer.Op reply hint) → HasAnswered (know_find k a).said reply
find_answered k find.New reply hint e = none_answer _ e
find_answered k (find.Near x) reply hint e = none_answer _ e
find_answered k (find.Probing x) reply hint e = none_answer _ e
find_answered k (find.Descending d) reply hint e = none_answer _ e
find_answered k (find.Ending v) reply hint e = none_answer _ e
find_answered k (find.Over None) reply hint e = record { it = _; is = refl; reply_is = same_reply _ _ _ _ e }
find_answered k (find.Over (Some v)) reply hint e = record { it = _; is = refl; reply_is = same_reply _ _ _ _ e }

part_answered : (k : PartStart) (a : PartStage) (reply : Reply) (hint : Option Hint) → part_answer_in a ≡ Some (answer.Op reply hint) → HasAnswered (know_part k a).said reply
part_answered k part.New reply hint e = none_answer _ e
part_answered k (part.Near x) reply hint e = none_answer _ e
part_answered k (part.Probing x) reply hint e = none_answer _ e
part_answered k (part.Descending d) reply hint e = none_answer _ e
part_answered k (part.Ending r) reply hint e = none_answer _ e
part_answered k (part.Over r) reply hint e = record { it = _; is = refl; reply_is = same_reply _ _ _ _ e }

write_answered : (goes : List Goes) (k : ℕ) (does : KeyWrite) (got : ℕ → Page) (a : WriteStage) (reply : Reply) (hint : Option Hint) → write_answer_in does a ≡ Some (answer.Op reply hint) → HasAnswered (know_write goes k does got a).said reply
write_answered goes k does got write.New reply hint e = none_answer _ e
write_answered goes k does got (write.Coming a) reply hint e = none_answer _ e
write_answered goes k does got (write.Keeping x there) reply hint e = none_answer _ e
write_answered goes k does got (write.Editing noted c) reply hint e = none_answer _ e
write_answered goes k does got (write.Ending r) reply hint e = none_answer _ e
write_answered goes k does got (write.Over (Done there left)) reply hint e = record { it = _; is = refl; reply_is = same_reply _ _ _ _ e }
write_answered goes k does got (write.Over NoRoom) reply hint e = record { it = _; is = refl; reply_is = same_reply _ _ _ _ e }

post_answered : {X : Type 0} (l : ℕ) (a : PostStage) (reply : Reply) (hint : Option Hint) → post_answer_in l a ≡ Some (answer.Op reply hint) → X
post_answered l post.New reply hint e = none_answer _ e
post_answered l (post.Coming a) reply hint e = none_answer _ e
post_answered l (post.Growing g) reply hint e = none_answer _ e
post_answered l (post.Walking w) reply hint e = none_answer _ e
post_answered l (post.Editing c) reply hint e = none_answer _ e
post_answered l (post.Staying x r) reply hint e = none_answer _ e
post_answered l (post.Ending r) reply hint e = none_answer _ e
post_answered l (post.Over (listed.Done s)) reply hint e = no_post _ _ _ _ e
post_answered l (post.Over listed.Already) reply hint e = no_post _ _ _ _ e
post_answered l (post.Over listed.Stale) reply hint e = no_post _ _ _ _ e
post_answered l (post.Over listed.NoRoom) reply hint e = no_post _ _ _ _ e
post_answered l (post.Over listed.TooTall) reply hint e = no_post _ _ _ _ e

compress_answered : {X : Type 0} (a : CompressStage) (reply : Reply) (hint : Option Hint) → compress_answer_in a ≡ Some (answer.Op reply hint) → X
compress_answered compress.New reply hint e = none_answer _ e
compress_answered (compress.Coming a) reply hint e = none_answer _ e
compress_answered (compress.Compressing c) reply hint e = none_answer _ e
compress_answered (compress.Staying x) reply hint e = none_answer _ e
compress_answered (compress.Ending r) reply hint e = none_answer _ e
compress_answered (compress.Over (compressed.Merged h)) reply hint e = no_compress _ _ _ _ e
compress_answered (compress.Over compressed.Evened) reply hint e = no_compress _ _ _ _ e
compress_answered (compress.Over compressed.Enough) reply hint e = no_compress _ _ _ _ e
compress_answered (compress.Over compressed.Alone) reply hint e = no_compress _ _ _ _ e
compress_answered (compress.Over (compressed.Unposted h)) reply hint e = no_compress _ _ _ _ e
compress_answered (compress.Over compressed.NoRoom) reply hint e = no_compress _ _ _ _ e

reclaim_answered : {X : Type 0} (a : ReclaimStage) (reply : Reply) (hint : Option Hint) → reclaim_answer_in a ≡ Some (answer.Op reply hint) → X
reclaim_answered reclaim.Seeing reply hint e = none_answer _ e
reclaim_answered (reclaim.Looking r) reply hint e = none_answer _ e
reclaim_answered reclaim.Releasing reply hint e = none_answer _ e
reclaim_answered (reclaim.Over what) reply hint e = absurd (let f : Some (answer.Reclaim what) ≡ Some (answer.Op reply hint) = e in cc)

lower_answered : {X : Type 0} (a : LowerStage) (reply : Reply) (hint : Option Hint) → lower_answer_in a ≡ Some (answer.Op reply hint) → X
lower_answered lower.New reply hint e = none_answer _ e
lower_answered (lower.Sinking l) reply hint e = none_answer _ e
lower_answered (lower.Ending r) reply hint e = none_answer _ e
lower_answered (lower.Over what) reply hint e = absurd (let f : Some (answer.Lower what) ≡ Some (answer.Op reply hint) = e in cc)

climb_not_op : {X : Type 0} (placing : Placing) (a : ClimbStage) (reply : Reply) (hint : Option Hint) → climb_answer_in placing a ≡ Some (answer.Op reply hint) → X
climb_not_op placing (climb.Writing w) reply hint e = none_answer _ e
climb_not_op placing (climb.Posting p) reply hint e = none_answer _ e
climb_not_op placing (climb.Ending r) reply hint e = none_answer _ e
climb_not_op placing (climb.Over (climbed.Unsplit r)) reply hint e = no_climb _ _ _ _ _ e
climb_not_op placing (climb.Over (climbed.Posted level key r)) reply hint e = no_climb _ _ _ _ _ e

pub climb_answered : (k : ℕ) (placing : Placing) (path : Path) (got : ℕ → Page) (child : ℕ) (a : ClimbStage) (reply : Reply) (last : Option Posted) (left : Option Hint) → climb_answer_in placing a ≡ Some (answer.InsertPost reply last left) → HasAnswered (know_climb k placing path got child a).said reply
climb_answered k placing path got child (climb.Writing w) reply last left e = none_answer _ e
climb_answered k placing path got child (climb.Posting p) reply last left e = none_answer _ e
climb_answered k placing path got child (climb.Ending r) reply last left e = none_answer _ e
climb_answered k placing path got child (climb.Over (climbed.Unsplit (Done there hint))) reply last left e = record { it = _; is = refl; reply_is = same_inserted _ _ _ _ _ _ e }
climb_answered k placing path got child (climb.Over (climbed.Unsplit NoRoom)) reply last left e = record { it = _; is = refl; reply_is = same_inserted _ _ _ _ _ _ e }
climb_answered k placing path got child (climb.Over (climbed.Posted level key r)) reply last left e = record { it = _; is = refl; reply_is = same_inserted _ _ _ _ _ _ e }

pub answered_said : (got : ℕ → Page) (child time : ℕ) (p : Proc) (reply : Reply) (hint : Option Hint) → answer_of p ≡ Some (answer.Op reply hint) → HasAnswered (know_of got child time p).said reply
answered_said got child time (proc.Find p) reply hint e = find_answered p.key p.stage reply hint e
answered_said got child time (proc.Write p) reply hint e = write_answered [] p.key p.write got p.stage reply hint e
answered_said got child time (proc.Post p) reply hint e = post_answered p.level p.stage reply hint e
answered_said got child time (proc.Part p) reply hint e = part_answered p.from p.stage reply hint e
answered_said got child time (proc.Compress p) reply hint e = compress_answered p.stage reply hint e
answered_said got child time (proc.Reclaim p) reply hint e = reclaim_answered p.stage reply hint e
answered_said got child time (proc.Lower p) reply hint e = lower_answered p.stage reply hint e
answered_said got child time (proc.InsertPost p) reply hint e = climb_not_op p.placing p.stage reply hint e

-- It has ended

find_late : (k : ℕ) (a : FindStage) (b : Answer) → find_answer_in a ≡ Some b → (know_find k a).stage ≡ Stage.Late
find_late k find.New b e = none_answer _ e
find_late k (find.Near x) b e = none_answer _ e
find_late k (find.Probing x) b e = none_answer _ e
find_late k (find.Descending d) b e = none_answer _ e
find_late k (find.Ending v) b e = none_answer _ e
find_late k (find.Over v) b e = refl

part_late : (k : PartStart) (a : PartStage) (b : Answer) → part_answer_in a ≡ Some b → (know_part k a).stage ≡ Stage.Late
part_late k part.New b e = none_answer _ e
part_late k (part.Near x) b e = none_answer _ e
part_late k (part.Probing x) b e = none_answer _ e
part_late k (part.Descending d) b e = none_answer _ e
part_late k (part.Ending r) b e = none_answer _ e
part_late k (part.Over r) b e = refl

write_late : (goes : List Goes) (k : ℕ) (does : KeyWrite) (got : ℕ → Page) (a : WriteStage) (b : Answer) → write_answer_in does a ≡ Some b → (know_write goes k does got a).stage ≡ Stage.Late
write_late goes k does got write.New b e = none_answer _ e
write_late goes k does got (write.Coming a) b e = none_answer _ e
write_late goes k does got (write.Keeping x there) b e = none_answer _ e
write_late goes k does got (write.Editing noted c) b e = none_answer _ e
write_late goes k does got (write.Ending r) b e = none_answer _ e
write_late goes k does got (write.Over r) b e = refl

post_late : (carried : Carried) (l k : ℕ) (got : ℕ → Page) (child : ℕ) (a : PostStage) (b : Answer) → post_answer_in l a ≡ Some b → (know_post carried l k got child a).stage ≡ Stage.Late
post_late carried l k got child post.New b e = none_answer _ e
post_late carried l k got child (post.Coming a) b e = none_answer _ e
post_late carried l k got child (post.Growing g) b e = none_answer _ e
post_late carried l k got child (post.Walking w) b e = none_answer _ e
post_late carried l k got child (post.Editing c) b e = none_answer _ e
post_late carried l k got child (post.Staying x r) b e = none_answer _ e
post_late carried l k got child (post.Ending r) b e = none_answer _ e
post_late carried l k got child (post.Over r) b e = refl

compress_late : (l k : ℕ) (got : ℕ → Page) (a : CompressStage) (b : Answer) → compress_answer_in a ≡ Some b → (know_compress l k got a).stage ≡ Stage.Late
compress_late l k got compress.New b e = none_answer _ e
compress_late l k got (compress.Coming a) b e = none_answer _ e
compress_late l k got (compress.Compressing c) b e = none_answer _ e
compress_late l k got (compress.Staying x) b e = none_answer _ e
compress_late l k got (compress.Ending r) b e = none_answer _ e
compress_late l k got (compress.Over r) b e = refl

lower_late : (got : ℕ → Page) (a : LowerStage) (b : Answer) → lower_answer_in a ≡ Some b → (know_lower got a).stage ≡ Stage.Late
lower_late got lower.New b e = none_answer _ e
lower_late got (lower.Sinking l) b e = none_answer _ e
lower_late got (lower.Ending r) b e = none_answer _ e
lower_late got (lower.Over r) b e = refl

climb_late : (k : ℕ) (placing : Placing) (path : Path) (got : ℕ → Page) (child : ℕ) (a : ClimbStage) (b : Answer) → climb_answer_in placing a ≡ Some b → (know_climb k placing path got child a).stage ≡ Stage.Late
climb_late k placing path got child (climb.Writing w) b e = none_answer _ e
climb_late k placing path got child (climb.Posting p) b e = none_answer _ e
climb_late k placing path got child (climb.Ending r) b e = none_answer _ e
climb_late k placing path got child (climb.Over r) b e = refl

pub answered_late : (got : ℕ → Page) (child time : ℕ) (p : Proc) (b : Answer) → HasEnd p → answer_of p ≡ Some b → (know_of got child time p).stage ≡ Stage.Late
answered_late got child time (proc.Find p) b ends e = find_late p.key p.stage b e
answered_late got child time (proc.Write p) b ends e = write_late [] p.key p.write got p.stage b e
answered_late got child time (proc.Post p) b ends e = post_late alone p.level p.key got child p.stage b e
answered_late got child time (proc.Part p) b ends e = part_late p.from p.stage b e
answered_late got child time (proc.Compress p) b ends e = compress_late p.level p.key got p.stage b e
answered_late got child time (proc.Reclaim p) b ends e = absurd ends
answered_late got child time (proc.Lower p) b ends e = lower_late got p.stage b e
answered_late got child time (proc.InsertPost p) b ends e = climb_late p.key p.placing p.path got child p.stage b e
