-- A process that answers that there was no room goes on without room.
use Rattle.std.proofs.Common.{ℕ, ◌≡◌, ◌≢◌, Option, Some, None, refl, subst}
use Rattle.bl_model.specs.declared.operation.Reply.{Reply}
use Rattle.bl_model.specs.declared.operation.Reply.TheVariants as reply
use Rattle.bl_model.specs.declared.deciding.KeyWrite.{KeyWrite}
use Rattle.bl_proc_writes.specs.declared.insert_post.Placing.{Placing}
use Rattle.bl_proc_writes.specs.Placings.{write_of}
use Rattle.bl_model.specs.Writes.{replied}
use Rattle.bl_model.proofs.Decisions.{is_decided}
use Rattle.bl_answers.specs.declared.answers.Answer.{Answer}
use Rattle.bl_answers.specs.declared.answers.Answer.TheVariants as answer
use Rattle.bl_answers.specs.declared.answers.Hint.{Hint}
use Rattle.bl_proc.specs.declared.searching.FindStage.{FindStage}
use Rattle.bl_proc.specs.declared.searching.FindStage.TheVariants as find
use Rattle.bl_proc.specs.declared.parts.PartStage.{PartStage}
use Rattle.bl_proc.specs.declared.parts.PartStage.TheVariants as part
use Rattle.bl_proc_writes.specs.declared.writing.WriteReply.TheVariants as written
use Rattle.bl_proc_writes.specs.declared.writing.WriteStage.{WriteStage}
use Rattle.bl_proc_writes.specs.declared.writing.WriteStage.TheVariants as write
use Rattle.bl_proc_writes.specs.declared.post.PostStage.{PostStage}
use Rattle.bl_proc_writes.specs.declared.post.PostStage.TheVariants as post
use Rattle.bl_proc_writes.specs.declared.post.PostReply.TheVariants as listed
use Rattle.bl_proc_compress.specs.declared.compress.CompressReply.TheVariants as compressed
use Rattle.bl_proc_compress.specs.declared.compress.CompressStage.{CompressStage}
use Rattle.bl_proc_compress.specs.declared.compress.CompressStage.TheVariants as compress
use Rattle.bl_proc.specs.declared.reclaiming.ReclaimStage.{ReclaimStage}
use Rattle.bl_proc.specs.declared.reclaiming.ReclaimStage.TheVariants as reclaim
use Rattle.bl_answers.specs.declared.answers.Lowered.TheVariants as lowered
use Rattle.bl_proc.specs.declared.lowering.LowerStage.{LowerStage}
use Rattle.bl_proc.specs.declared.lowering.LowerStage.TheVariants as lower
use Rattle.bl_proc_writes.specs.declared.insert_post.Climbed.TheVariants as climbed
use Rattle.bl_proc_writes.specs.declared.insert_post.ClimbStage.{ClimbStage}
use Rattle.bl_proc_writes.specs.declared.insert_post.ClimbStage.TheVariants as climb
use Rattle.bl_proc.specs.declared.kinds.Proc.{Proc}
use Rattle.bl_proc.specs.declared.kinds.Proc.TheVariants as proc
use Rattle.bl_proc.specs.Processes.{answer_of}
use Rattle.bl_proc.specs.Searches.{find_answer_in}
use Rattle.bl_proc.specs.Parts.{part_answer_in}
use Rattle.bl_proc_writes.specs.Writes.{write_answer_in}
use Rattle.bl_proc_writes.specs.Posts.{post_answer_in}
use Rattle.bl_proc_compress.specs.Compresses.{compress_answer_in}
use Rattle.bl_proc.specs.Reclaims.{reclaim_answer_in}
use Rattle.bl_proc.specs.Lowers.{lower_answer_in}
use Rattle.bl_proc_writes.specs.InsertPosts.{climb_answer_in}
use Rattle.bl_proc_deterministic.specs.Refusals.{IsNoRoom, WriteRefused, PostRefused, CompressRefused, LowerRefused, ClimbRefused, IsRefused}

-- An answer

none_answer : {X : Type 0} (a : Answer) → None ≡ Some a → X
none_answer a e = absurd (let f : None ≡ Some a = e in cc)

no_room : (a b : Answer) → Some a ≡ Some b → IsNoRoom b → IsNoRoom a
no_room a b e r = (let f : b ≡ a = cc in subst IsNoRoom f r)

find_answers : (a : FindStage) (b : Answer) → find_answer_in a ≡ Some b → IsNoRoom b → ⊥
find_answers find.New b e r = none_answer b e
find_answers (find.Near x) b e r = none_answer b e
find_answers (find.Probing x) b e r = none_answer b e
find_answers (find.Descending d) b e r = none_answer b e
find_answers (find.Ending v) b e r = none_answer b e
find_answers (find.Over None) b e r = no_room _ b e r
find_answers (find.Over (Some v)) b e r = no_room _ b e r

part_answers : (a : PartStage) (b : Answer) → part_answer_in a ≡ Some b → IsNoRoom b → ⊥
part_answers part.New b e r = none_answer b e
part_answers (part.Near x) b e r = none_answer b e
part_answers (part.Probing x) b e r = none_answer b e
part_answers (part.Descending d) b e r = none_answer b e
part_answers (part.Ending q) b e r = none_answer b e
part_answers (part.Over q) b e r = no_room _ b e r

-- no write decides that there was no room
never_no_room : (q : Reply) (h : Option Hint) → q ≢ reply.NoRoom → IsNoRoom (answer.Op q h) → ⊥
never_no_room reply.NoRoom h other r = other refl
never_no_room q h other r = r

write_answers : (does : KeyWrite) (a : WriteStage) (b : Answer) → write_answer_in does a ≡ Some b → IsNoRoom b → WriteRefused a
write_answers does write.New b e r = none_answer b e
write_answers does (write.Coming a) b e r = none_answer b e
write_answers does (write.Keeping x there) b e r = none_answer b e
write_answers does (write.Editing noted c) b e r = none_answer b e
write_answers does (write.Ending x) b e r = none_answer b e
write_answers does (write.Over (written.Done there h)) b e r = absurd (never_no_room (replied does there) h (is_decided does there).room (no_room _ b e r))
write_answers does (write.Over written.NoRoom) b e r = tt

post_answers : (level : ℕ) (a : PostStage) (b : Answer) → post_answer_in level a ≡ Some b → IsNoRoom b → PostRefused a
post_answers level post.New b e r = none_answer b e
post_answers level (post.Coming a) b e r = none_answer b e
post_answers level (post.Growing g) b e r = none_answer b e
post_answers level (post.Walking w) b e r = none_answer b e
post_answers level (post.Editing c) b e r = none_answer b e
post_answers level (post.Staying x s) b e r = none_answer b e
post_answers level (post.Ending x) b e r = none_answer b e
post_answers level (post.Over (listed.Done s)) b e r = no_room _ b e r
post_answers level (post.Over listed.Already) b e r = no_room _ b e r
post_answers level (post.Over listed.Stale) b e r = no_room _ b e r
post_answers level (post.Over listed.NoRoom) b e r = tt
post_answers level (post.Over listed.TooTall) b e r = no_room _ b e r

compress_answers : (a : CompressStage) (b : Answer) → compress_answer_in a ≡ Some b → IsNoRoom b → CompressRefused a
compress_answers compress.New b e r = none_answer b e
compress_answers (compress.Coming a) b e r = none_answer b e
compress_answers (compress.Compressing c) b e r = none_answer b e
compress_answers (compress.Staying x) b e r = none_answer b e
compress_answers (compress.Ending s) b e r = none_answer b e
compress_answers (compress.Over (compressed.Merged h)) b e r = no_room _ b e r
compress_answers (compress.Over compressed.Evened) b e r = no_room _ b e r
compress_answers (compress.Over compressed.Enough) b e r = no_room _ b e r
compress_answers (compress.Over compressed.Alone) b e r = no_room _ b e r
compress_answers (compress.Over (compressed.Unposted h)) b e r = no_room _ b e r
compress_answers (compress.Over compressed.NoRoom) b e r = tt

reclaim_answers : (a : ReclaimStage) (b : Answer) → reclaim_answer_in a ≡ Some b → IsNoRoom b → ⊥
reclaim_answers reclaim.Seeing b e r = none_answer b e
reclaim_answers (reclaim.Looking q) b e r = none_answer b e
reclaim_answers reclaim.Releasing b e r = none_answer b e
reclaim_answers (reclaim.Over q) b e r = no_room _ b e r

lower_answers : (a : LowerStage) (b : Answer) → lower_answer_in a ≡ Some b → IsNoRoom b → LowerRefused a
lower_answers lower.New b e r = none_answer b e
lower_answers (lower.Sinking l) b e r = none_answer b e
lower_answers (lower.Ending q) b e r = none_answer b e
lower_answers (lower.Over lowered.Lowered) b e r = no_room _ b e r
lower_answers (lower.Over lowered.Needed) b e r = no_room _ b e r
lower_answers (lower.Over lowered.NoRoom) b e r = tt

-- nor does an insertion that has split nothing
never_unsplit : (q : Reply) → q ≢ reply.NoRoom → IsNoRoom (answer.InsertPost q None None) → ⊥
never_unsplit reply.NoRoom other r = other refl
never_unsplit q other r = r

climb_answers : (placing : Placing) (a : ClimbStage) (b : Answer) → climb_answer_in placing a ≡ Some b → IsNoRoom b → ClimbRefused a
climb_answers placing (climb.Writing w) b e r = none_answer b e
climb_answers placing (climb.Posting p) b e r = none_answer b e
climb_answers placing (climb.Ending q) b e r = none_answer b e
climb_answers placing (climb.Over (climbed.Unsplit (written.Done there h))) b e r = absurd (never_unsplit (replied (write_of placing) there) (is_decided (write_of placing) there).room (no_room _ b e r))
climb_answers placing (climb.Over (climbed.Unsplit written.NoRoom)) b e r = tt
climb_answers placing (climb.Over (climbed.Posted level key (listed.Done s))) b e r = no_room _ b e r
climb_answers placing (climb.Over (climbed.Posted level key listed.Already)) b e r = no_room _ b e r
climb_answers placing (climb.Over (climbed.Posted level key listed.Stale)) b e r = no_room _ b e r
climb_answers placing (climb.Over (climbed.Posted level key listed.NoRoom)) b e r = tt
climb_answers placing (climb.Over (climbed.Posted level key listed.TooTall)) b e r = no_room _ b e r

pub answers_refused : (p : Proc) (a : Answer) → answer_of p ≡ Some a → IsNoRoom a → IsRefused p
answers_refused (proc.Find p) a e r = find_answers p.stage a e r
answers_refused (proc.Write p) a e r = write_answers p.write p.stage a e r
answers_refused (proc.Post p) a e r = post_answers p.level p.stage a e r
answers_refused (proc.Part p) a e r = part_answers p.stage a e r
answers_refused (proc.Compress p) a e r = compress_answers p.stage a e r
answers_refused (proc.Reclaim p) a e r = reclaim_answers p.stage a e r
answers_refused (proc.Lower p) a e r = lower_answers p.stage a e r
answers_refused (proc.InsertPost p) a e r = climb_answers p.placing p.stage a e r
