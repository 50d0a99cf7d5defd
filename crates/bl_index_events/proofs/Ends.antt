-- What is said at the end of an operation.
use Rattle.std.proofs.Common.{ℕ, ◌≡◌, ◌≢◌, ◌+◌, Option, Some, None, List, [], refl, sym, ap, ◌∙◌, subst}
use Rattle.bl_model.specs.declared.deciding.KeyWrite.{KeyWrite}
use Rattle.bl_model.specs.declared.operation.Op.{Op as Operation}
use Rattle.bl_model.specs.declared.operation.Op.TheVariants as op
use Rattle.bl_model.specs.declared.operation.Reply.{Reply}
use Rattle.bl_model.specs.declared.operation.Reply.TheVariants.{Rows}
use Rattle.bl_model.specs.Writes.{write_op}
use Rattle.bl_page.specs.declared.page.Page.{Page}
use Rattle.bl_claims.specs.Trails.{Trail, marks_of}
use Rattle.bl_proc_steps.specs.declared.acts.Action.TheVariants as act
use Rattle.bl_proc_steps.specs.declared.acts.Seen.TheVariants as seen
use Rattle.bl_answers.specs.declared.answers.Hint.{Hint}
use Rattle.bl_answers.specs.declared.answers.Answer.{Answer}
use Rattle.bl_answers.specs.declared.answers.Answer.TheVariants.{Op, InsertPost}
use Rattle.bl_proc_steps.specs.declared.approach.Approach.{Approach}
use Rattle.bl_proc_steps.specs.declared.approach.Approach.TheVariants as way
use Rattle.bl_proc_steps.specs.declared.edit.Edit.{Edit}
use Rattle.bl_proc_steps.specs.declared.edit.Edit.TheVariants as edit
use Rattle.bl_answers.specs.declared.answers.Posted.{Posted}
use Rattle.bl_proc_steps.specs.declared.growth.Growth.{Growth}
use Rattle.bl_proc_steps.specs.declared.growth.Growth.TheVariants as growth
use Rattle.bl_proc_steps.specs.Growths.{growth_next}
use Rattle.bl_proc_steps.specs.Approaches.{approach_next}
use Rattle.bl_proc_steps.specs.Edits.{edit_next}
use Rattle.bl_proc_writes.specs.declared.writing.WriteStage.{WriteStage}
use Rattle.bl_proc_writes.specs.declared.writing.WriteStage.TheVariants as write
use Rattle.bl_proc_writes.specs.declared.writing.WriteReply.{WriteReply}
use Rattle.bl_proc_writes.specs.declared.writing.WriteReply.TheVariants as written
use Rattle.bl_proc.specs.declared.searching.FindStage.{FindStage}
use Rattle.bl_proc.specs.declared.searching.FindStage.TheVariants as find
use Rattle.bl_proc.specs.declared.parts.PartRows.{PartRows}
use Rattle.bl_proc.specs.declared.parts.PartStage.{PartStage}
use Rattle.bl_proc.specs.declared.parts.PartStart.{PartStart}
use Rattle.bl_proc.specs.declared.parts.PartStage.TheVariants as part
use Rattle.bl_proc.specs.declared.kinds.Proc.{Proc}
use Rattle.bl_proc.specs.declared.kinds.Proc.TheVariants as proc
use Rattle.bl_proc_writes.specs.Writes.{write_answer, write_next_in, write_answer_in, WriteGoes}
use Rattle.bl_proc.specs.Searches.{found_answer, find_next_in, find_answer_in, FindGoes}
use Rattle.bl_proc.specs.Parts.{part_op, part_next_in, part_answer_in, PartGoes}
use Rattle.bl_proc.specs.Processes.{next_of, answer_of, Takes}
use Rattle.bl_proc_writes.specs.declared.post.PostStage.{PostStage}
use Rattle.bl_proc_writes.specs.declared.post.PostStage.TheVariants as post
use Rattle.bl_proc_writes.specs.declared.paths.Path.{Path}
use Rattle.bl_proc_writes.specs.declared.insert_post.InsertPost.{InsertPost as InsertPostIs}
use Rattle.bl_proc_writes.specs.declared.insert_post.Climbed.{Climbed}
use Rattle.bl_proc_writes.specs.declared.insert_post.Climbed.TheVariants as climbed
use Rattle.bl_proc_writes.specs.declared.insert_post.ClimbStage.{ClimbStage}
use Rattle.bl_proc_writes.specs.declared.insert_post.ClimbStage.TheVariants as climb
use Rattle.bl_proc_writes.specs.Posts.{post_next_in}
use Rattle.bl_proc_writes.specs.Stands.{IsWriting, IsPosting, Stands}
use Rattle.bl_proc_writes.specs.InsertPosts.{climb_next_in, climb_answer_in, climbed_answer, ClimbGoes}
use Rattle.bl_proc_invariant.specs.Beside.{MeansBeside}
use Rattle.bl_proc_invariant.proofs.Beside.{beside_means}
use Rattle.bl_proc_invariant.specs.Knowing.{Run, know, know_of, written_reply, found_reply, climbed_reply, know_find, know_part, know_write, know_climb, climb_end, find_end, part_end, write_end, end_of_proc}
use Rattle.bl_proc_deterministic.specs.Frames.{op_of}
use Rattle.bl_index_rule.specs.declared.known.PassState.{PassState}
use Rattle.bl_claims.specs.Seeing.{Holds, name}
use Rattle.bl_index_events.specs.Answered.{Answers, InCall}
use Rattle.bl_index_events.specs.Held.{own_marks}
use Rattle.bl_index_events.specs.Runs.{IsDone}
use Rattle.bl_index_events.proofs.Calls.{since_end, since_said, end_seen}
use Rattle.bl_proc_writes.specs.declared.insert_post.Placing.{Placing}
use Rattle.bl_proc_writes.specs.declared.insert_post.Placing.TheVariants as place
use Rattle.bl_proc_writes.specs.Placings.{write_of}

some_one : {a b : Answer} → Some a ≡ Some b → a ≡ b
some_one e = cc

pub not_end_way : (a : Approach) → approach_next a ≢ act.End
not_end_way way.Start e = cc
not_end_way (way.At x) e = cc
not_end_way (way.Latching x) e = cc
not_end_way (way.Latched x) e = cc
not_end_way (way.Leaving x to) e = cc

pub not_end : (c : Edit) → edit_next c ≢ act.End
not_end (edit.Putting x page) e = cc
not_end (edit.Taking full) e = cc
not_end (edit.PuttingNew p) e = cc
not_end (edit.PuttingOld p) e = cc
not_end (edit.OpeningNew x new s) e = cc
not_end (edit.Opening x what) e = cc

same_reply : (a b : Reply) (hint other : Option Hint) → Op a hint ≡ Op b other → a ≡ b
same_reply a b hint other e = cc

write_reply_said : (does : KeyWrite) (q : WriteReply) (reply : Reply) (hint : Option Hint) → write_answer does q ≡ Op reply hint → written_reply does q ≡ reply
write_reply_said does (written.Done there h) reply hint e = same_reply _ _ _ _ e
write_reply_said does written.NoRoom reply hint e = cc

write_ends : (key : ℕ) (does : KeyWrite) (a b : WriteStage) (reply : Reply) (hint : Option Hint) → write_next_in a ≡ act.End → WriteGoes key does a seen.Done b → write_answer_in does b ≡ Some (Op reply hint) → (write_end does a ≡ Some reply) × ((got : ℕ → Page) → (know_write [] key does got a).said ≡ Some (record { op = write_op key does; reply = reply }))
write_ends key does write.New b reply hint e t h = cc
write_ends key does (write.Coming w) b reply hint e t h = absurd (not_end_way w e)
write_ends key does (write.Keeping x there) b reply hint e t h = cc
write_ends key does (write.Editing noted c) b reply hint e t h = absurd (not_end c e)
write_ends key does (write.Over r) b reply hint e t h = absurd t
write_ends key does (write.Ending r) (write.Over q) reply hint e t h =
    let some : write_answer does q ≡ Op reply hint = some_one h in
    let is : written_reply does r ≡ reply = ap (written_reply does) (sym t) ∙ write_reply_said does q reply hint some in
    (ap (λ (z : Reply). Some z) is, λ got. ap (λ (z : Reply). Some (record { op = write_op key does; reply = z })) is)
write_ends key does (write.Ending r) b reply hint e t h = absurd t

find_reply_said : (v : Option ℕ) (reply : Reply) (hint : Option Hint) → found_answer v ≡ Op reply hint → found_reply v ≡ reply
find_reply_said (Some v) reply hint e = cc
find_reply_said None reply hint e = cc

find_ends : (key : ℕ) (a b : FindStage) (reply : Reply) (hint : Option Hint) → find_next_in a ≡ act.End → FindGoes key a seen.Done b → find_answer_in b ≡ Some (Op reply hint) → (find_end a ≡ Some reply) × ((know_find key a).said ≡ Some (record { op = op.Find key; reply = reply }))
find_ends key find.New b reply hint e t h = cc
find_ends key (find.Near x) b reply hint e t h = cc
find_ends key (find.Probing x) b reply hint e t h = cc
find_ends key (find.Descending d) b reply hint e t h = cc
find_ends key (find.Over v) b reply hint e t h = absurd t
find_ends key (find.Ending v) find.New reply hint e t h = absurd t
find_ends key (find.Ending v) (find.Near x) reply hint e t h = absurd t
find_ends key (find.Ending v) (find.Probing x) reply hint e t h = absurd t
find_ends key (find.Ending v) (find.Descending d) reply hint e t h = absurd t
find_ends key (find.Ending v) (find.Ending u) reply hint e t h = absurd t
find_ends key (find.Ending v) (find.Over u) reply hint e t h =
    let some : found_answer u ≡ Op reply hint = some_one h in
    let is : found_reply v ≡ reply = ap found_reply (sym t) ∙ find_reply_said u reply hint some in
    (ap (λ (z : Reply). Some z) is, ap (λ (z : Reply). Some (record { op = op.Find key; reply = z })) is)

abbrev rows_of : PartRows → Reply
rows_of r = Rows r.rows r.next

part_ends : (from : PartStart) (a b : PartStage) (reply : Reply) (hint : Option Hint) → part_next_in a ≡ act.End → PartGoes from a seen.Done b → part_answer_in b ≡ Some (Op reply hint) → (part_end a ≡ Some reply) × ((know_part from a).said ≡ Some (record { op = part_op from; reply = reply }))
part_ends from part.New b reply hint e t h = cc
part_ends from (part.Near x) b reply hint e t h = cc
part_ends from (part.Probing x) b reply hint e t h = cc
part_ends from (part.Descending d) b reply hint e t h = cc
part_ends from (part.Over r) b reply hint e t h = absurd t
part_ends from (part.Ending r) part.New reply hint e t h = absurd t
part_ends from (part.Ending r) (part.Near x) reply hint e t h = absurd t
part_ends from (part.Ending r) (part.Probing x) reply hint e t h = absurd t
part_ends from (part.Ending r) (part.Descending d) reply hint e t h = absurd t
part_ends from (part.Ending r) (part.Ending q) reply hint e t h = absurd t
part_ends from (part.Ending r) (part.Over q) reply hint e t h =
    let some : Op (rows_of q) None ≡ Op reply hint = some_one h in
    let is : rows_of r ≡ reply = ap rows_of (sym t) ∙ same_reply _ _ _ _ some in
    (ap (λ (z : Reply). Some z) is, ap (λ (z : Reply). Some (record { op = part_op from; reply = z })) is)

-- an insertion that posts has an answer of its own
climb_ends : {X : Type 0} (placing : Placing) (a : ClimbStage) (reply : Reply) (hint : Option Hint) → climb_answer_in placing a ≡ Some (Op reply hint) → X
climb_ends placing (climb.Writing w) reply hint h = absurd (let f = h in cc)
climb_ends placing (climb.Posting p) reply hint h = absurd (let f = h in cc)
climb_ends placing (climb.Ending r) reply hint h = absurd (let f = h in cc)
climb_ends placing (climb.Over (climbed.Unsplit r)) reply hint h = absurd (let f = h in cc)
climb_ends placing (climb.Over (climbed.Posted level key r)) reply hint h = absurd (let f = h in cc)

-- what a process that ended with this answer had said
pub record Says (before : Proc) (o : Operation) (reply : Reply) : Type 0 where
  pub end : end_of_proc before ≡ Some reply
  pub said : (r : Run) → r.state ≡ before → (know r).said ≡ Some (record { op = o; reply = reply })

op_one : {a b : Operation} → Some a ≡ Some b → a ≡ b
op_one e = cc

says_of : (before : Proc) (o o' : Operation) (reply : Reply) → end_of_proc before ≡ Some reply → ((got : ℕ → Page) (child time : ℕ) → (know_of got child time before).said ≡ Some (record { op = o'; reply = reply })) → Some o' ≡ Some o → Says before o reply
says_of before o o' reply end said e = record {
  end = end;
  said = λ r h. ap (λ (z : Proc). (know_of r.got r.child r.time z).said) h ∙ (said r.got r.child r.time ∙ ap (λ (z : Operation). Some (record { op = z; reply = reply })) (op_one e));
}

pub end_says : (before last : Proc) (o : Operation) (reply : Reply) (hint : Option Hint) → op_of before ≡ Some o → next_of before ≡ act.End → Takes before seen.Done last → answer_of last ≡ Some (Op reply hint) → Says before o reply
end_says (proc.Find p) (proc.Find q) o reply hint i e t h = (let s = find_ends p.key p.stage q.stage reply hint e t.1 h in says_of (proc.Find p) o (op.Find p.key) reply s.0 (λ got child time. s.1) i)
end_says (proc.Write p) (proc.Write q) o reply hint i e t h =
    let answer = subst (λ z. write_answer_in z q.stage ≡ Some (Op reply hint)) t.1 h in
    let s = write_ends p.key p.write p.stage q.stage reply hint e t.2 answer in
    says_of (proc.Write p) o (write_op p.key p.write) reply s.0 (λ got child time. s.1 got) i
end_says (proc.Part p) (proc.Part q) o reply hint i e t h = (let s = part_ends p.from p.stage q.stage reply hint e t.1 h in says_of (proc.Part p) o (part_op p.from) reply s.0 (λ got child time. s.1) i)
end_says (proc.Post p) last o reply hint i e t h = cc
end_says (proc.Compress p) last o reply hint i e t h = cc
end_says (proc.Reclaim p) last o reply hint i e t h = cc
end_says (proc.Lower p) last o reply hint i e t h = cc
end_says (proc.InsertPost p) (proc.InsertPost q) o reply hint i e t h = climb_ends q.placing q.stage reply hint h
end_says before last o reply hint i e t h = absurd t

-- what the index began with, as the pass knows when a process has ended
pub done_first : (pass : ℕ) (old e : PassState) (first last : Proc) → IsDone pass old e first last → e.first ≡ old.first
done_first pass old e first last d = d.observed.notes.first ∙ d.since.beginning

-- the hint beside its reply means what it has put
pub op_beside : (pass : ℕ) (old e : PassState) (first last : Proc) (reply : Reply) (hint : Option Hint) → IsDone pass old e first last → answer_of last ≡ Some (Op reply hint) → MeansBeside last reply hint (marks_of (name pass (old.number + 1)) e.trail)
op_beside pass old e first last reply hint d answer = beside_means last reply hint (marks_of (name pass (old.number + 1)) e.trail) answer d.log

-- A call whose process has said that is answered so.
abbrev pub answered_by : (from : List (Option Page)) (pass : ℕ) (old e : PassState) (first last : Proc) (o : Operation) (reply : Reply) → (d : IsDone pass old e first last) → old.first ≡ from → Says d.before o reply → Answers from pass o reply old.trail e.trail
answered_by from pass old e first last o reply d begins s = record {
  number = old.number + 1;
  holds = subst (λ (z : Option Reply). Holds (name pass (old.number + 1)) z old.trail e.trail) s.end (since_end pass (end_of_proc d.before) old d.d e d.since d.observed);
  seen = (end_seen pass (end_of_proc d.before) old d.d e from d.since d.observed begins).1;
  once = since_said pass (end_of_proc d.before) old d.d e (Some (record { op = o; reply = reply })) d.since d.observed (λ r h. s.said r (h ∙ d.state));
}

abbrev pub op_answered : (from : List (Option Page)) (pass : ℕ) (old e : PassState) (first last : Proc) (o : Operation) (reply : Reply) (hint : Option Hint) → IsDone pass old e first last → old.first ≡ from → op_of first ≡ Some o → answer_of last ≡ Some (Op reply hint) → Answers from pass o reply old.trail e.trail
op_answered from pass old e first last o reply hint d begins is answer =
    answered_by from pass old e first last o reply d begins (end_says d.before last o reply hint (d.op ∙ is) d.at_end d.takes answer)

-- what its process has done, by its name in the call
pub own_done : (pass : ℕ) (old e : PassState) (first last : Proc) → IsDone pass old e first last → own_marks e ≡ marks_of (name pass (old.number + 1)) e.trail
own_done pass old e first last d = ap (λ (z : ℕ × ℕ). marks_of (name z.0 z.1) e.trail) (λ i. ((d.observed.notes.pass ∙ d.since.named) i, (d.observed.notes.number ∙ d.since.number) i))

pub in_call_by : (from : List (Option Page)) (pass : ℕ) (old e : PassState) (first last : Proc) (o : Operation) (reply : Reply) (IsSo : Trail → Type 0) → (d : IsDone pass old e first last) → old.first ≡ from → Says d.before o reply → IsSo (own_marks e) → InCall pass (Some reply) old.trail e.trail IsSo
in_call_by from pass old e first last o reply IsSo d begins s so = record {
  number = old.number + 1;
  holds = (answered_by from pass old e first last o reply d begins s).holds;
  is = subst IsSo (own_done pass old e first last d) so;
}

pub op_in_call : (from : List (Option Page)) (pass : ℕ) (old e : PassState) (first last : Proc) (o : Operation) (reply : Reply) (hint : Option Hint) (IsSo : Trail → Type 0) → IsDone pass old e first last → old.first ≡ from → op_of first ≡ Some o → answer_of last ≡ Some (Op reply hint) → IsSo (own_marks e) → InCall pass (Some reply) old.trail e.trail IsSo
op_in_call from pass old e first last o reply hint IsSo d begins is answer so = in_call_by from pass old e first last o reply IsSo d begins (end_says d.before last o reply hint (d.op ∙ is) d.at_end d.takes answer) so

-- An insertion that posts

not_end_growth : (g : Growth) → growth_next g ≢ act.End
not_end_growth growth.Latching e = cc
not_end_growth growth.Latched e = cc
not_end_growth (growth.Taking rise) e = cc
not_end_growth (growth.PuttingTop r) e = cc
not_end_growth (growth.PuttingAnchor r) e = cc
not_end_growth (growth.OpeningTop x) e = cc
not_end_growth growth.OpeningGrown e = cc
not_end_growth growth.OpeningRefused e = cc

not_end_write : (a : WriteStage) → IsWriting a → write_next_in a ≢ act.End
not_end_write write.New is e = cc
not_end_write (write.Coming a) is e = not_end_way a e
not_end_write (write.Keeping x there) is e = cc
not_end_write (write.Editing noted c) is e = not_end c e
not_end_write (write.Ending r) is e = is
not_end_write (write.Over r) is e = is

not_end_post : (a : PostStage) → IsPosting a → post_next_in a ≢ act.End
not_end_post post.New is e = is
not_end_post (post.Coming a) is e = not_end_way a e
not_end_post (post.Growing g) is e = not_end_growth g e
not_end_post (post.Walking w) is e = cc
not_end_post (post.Editing c) is e = not_end c e
not_end_post (post.Staying x r) is e = cc
not_end_post (post.Ending r) is e = is
not_end_post (post.Over r) is e = is

same_inserted : (a b : Reply) (last other : Option Posted) (left right : Option Hint) → InsertPost a last left ≡ InsertPost b other right → a ≡ b
same_inserted a b last other left right e = cc

climbed_reply_said : (placing : Placing) (r : Climbed) (reply : Reply) (last : Option Posted) (left : Option Hint) → climbed_answer placing r ≡ InsertPost reply last left → climbed_reply placing r ≡ reply
climbed_reply_said placing (climbed.Unsplit (written.Done there h)) reply last left e = same_inserted _ _ _ _ _ _ e
climbed_reply_said placing (climbed.Unsplit written.NoRoom) reply last left e = same_inserted _ _ _ _ _ _ e
climbed_reply_said placing (climbed.Posted level key r) reply last left e = same_inserted _ _ _ _ _ _ e

climbs_end : (key : ℕ) (placing : Placing) (path after : Path) (a b : ClimbStage) (reply : Reply) (last : Option Posted) (left : Option Hint) → Stands key placing path a → climb_next_in a ≡ act.End → ClimbGoes after a seen.Done b → climb_answer_in placing b ≡ Some (InsertPost reply last left) → (climb_end placing a ≡ Some reply) × ((got : ℕ → Page) (child : ℕ) → (know_climb key placing path got child a).said ≡ Some (record { op = write_op key (write_of placing); reply = reply }))
climbs_end key placing path after (climb.Writing w) b reply last left stands e t h = absurd (not_end_write w.stage stands.2 e)
climbs_end key placing path after (climb.Posting p) b reply last left stands e t h = absurd (not_end_post p.stage stands e)
climbs_end key placing path after (climb.Over r) b reply last left stands e t h = absurd t
climbs_end key placing path after (climb.Ending r) (climb.Over q) reply last left stands e t h =
    let is : climbed_reply placing r ≡ reply = ap (climbed_reply placing) (sym t) ∙ climbed_reply_said placing q reply last left (some_one h) in
    (ap (λ (z : Reply). Some z) is, λ got child. ap (λ (z : Reply). Some (record { op = write_op key (write_of placing); reply = z })) is)
climbs_end key placing path after (climb.Ending r) b reply last left stands e t h = absurd t

pub climb_says : (before : Proc) (q : InsertPostIs) (o : Operation) (reply : Reply) (last : Option Posted) (left : Option Hint) → op_of before ≡ Some o → next_of before ≡ act.End → Takes before seen.Done (proc.InsertPost q) → climb_answer_in q.placing q.stage ≡ Some (InsertPost reply last left) → Says before o reply
climb_says (proc.InsertPost p) q o reply last left i e t h =
    let answer = subst (λ z. climb_answer_in z q.stage ≡ Some (InsertPost reply last left)) t.1 h in
    let s = climbs_end p.key p.placing p.path q.path p.stage q.stage reply last left p.stands e t.3 answer in
    says_of (proc.InsertPost p) o (write_op p.key (write_of p.placing)) reply s.0 (λ got child time. s.1 got child) i
climb_says before q o reply last left i e t h = absurd t

-- it has ended, and is of that key and value
same_placed : (k : ℕ) (a : Placing) (key : ℕ) (b : Placing) → write_op k (write_of a) ≡ write_op key (write_of b) → (k ≡ key) × (a ≡ b)
same_placed k (place.Insert v) key (place.Insert w) e = (let f : op.Insert k v ≡ op.Insert key w = e in (cc, cc))
same_placed k (place.Put v) key (place.Put w) e = (let f : op.Put k v ≡ op.Put key w = e in (cc, cc))
same_placed k (place.Insert v) key (place.Put w) e = absurd (let f : op.Insert k v ≡ op.Put key w = e in cc)
same_placed k (place.Put v) key (place.Insert w) e = absurd (let f : op.Put k v ≡ op.Insert key w = e in cc)

pub climb_over : (before : Proc) (q : InsertPostIs) (key : ℕ) (placing : Placing) → op_of before ≡ Some (write_op key (write_of placing)) → next_of before ≡ act.End → Takes before seen.Done (proc.InsertPost q) → (r : Climbed) × (q.stage ≡ climb.Over r) × (q.key ≡ key) × (q.placing ≡ placing)
climb_over (proc.InsertPost p) q key placing i e t = over p.stage q.stage p.stands e t.3
  where
    same : (p.key ≡ key) × (p.placing ≡ placing)
    same = same_placed p.key p.placing key placing (op_one i)

    over : (a b : ClimbStage) → Stands p.key p.placing p.path a → climb_next_in a ≡ act.End → ClimbGoes q.path a seen.Done b → (r : Climbed) × (b ≡ climb.Over r) × (q.key ≡ key) × (q.placing ≡ placing)
    over (climb.Writing w) b stands e g = absurd (not_end_write w.stage stands.2 e)
    over (climb.Posting c) b stands e g = absurd (not_end_post c.stage stands e)
    over (climb.Over r) b stands e g = absurd g
    over (climb.Ending r) (climb.Over last) stands e g = (last, refl, t.0 ∙ same.0, t.1 ∙ same.1)
    over (climb.Ending r) b stands e g = absurd g
climb_over before q key placing i e t = absurd t
