-- A write that posts, by words and to its end.
use Rattle.std.proofs.Common.{ℕ, ◌≡◌, ◌<◌, ◌≤◌, ◌+◌, Option, Some, None, zero, suc, refl, sym, ap, ◌∙◌, subst}
use Rattle.bl_model.specs.Writes.{write_op}
use Rattle.bl_model.specs.declared.operation.Reply.{Reply}
use Rattle.bl_model.specs.declared.operation.Reply.TheVariants as reply
use Rattle.bl_page.specs.Nodes.{unbounded}
use Rattle.bl_tree_worlds.specs.Blank.{IsBlank}
use Rattle.atomic_table.specs.declared.shared.Seat.{Seat}
use Rattle.bl_proc_steps.specs.declared.acts.Seen.{Seen}
use Rattle.bl_proc_steps.specs.declared.acts.Seen.TheVariants as seen
use Rattle.bl_answers.specs.declared.answers.Answer.{Answer}
use Rattle.bl_answers.specs.declared.answers.Answer.TheVariants.{Op, InsertPost as Answered}
use Rattle.bl_answers.specs.declared.answers.Hint.{Hint}
use Rattle.bl_answers.specs.declared.answers.Hint.TheVariants as hint
use Rattle.bl_answers.specs.declared.answers.Posted.{Posted}
use Rattle.bl_answers.specs.declared.answers.Posted.TheVariants as posted
use Rattle.bl_proc_steps.specs.declared.approach.Approach.{Approach}
use Rattle.bl_proc_steps.specs.declared.approach.Approach.TheVariants as way
use Rattle.bl_proc_steps.specs.Approaches.{approach_next}
use Rattle.bl_proc_steps.specs.Given.{Gives}
use Rattle.bl_proc_writes.specs.declared.insert_post.Climbed.{Climbed}
use Rattle.bl_proc_writes.specs.declared.insert_post.Climbed.TheVariants as climbed
use Rattle.bl_proc_writes.specs.declared.insert_post.ClimbStage.TheVariants as climb
use Rattle.bl_proc_writes.specs.declared.insert_post.InsertPost.{InsertPost}
use Rattle.bl_proc.specs.declared.kinds.Proc.{Proc}
use Rattle.bl_proc.specs.declared.kinds.Proc.TheVariants as proc
use Rattle.bl_proc_writes.specs.declared.paths.Path.{Path}
use Rattle.bl_proc_writes.specs.declared.post.PostReply.{PostReply}
use Rattle.bl_proc_writes.specs.declared.post.PostReply.TheVariants as listed
use Rattle.bl_proc_writes.specs.declared.writing.WriteReply.{WriteReply}
use Rattle.bl_proc_writes.specs.declared.writing.WriteReply.TheVariants as written
use Rattle.std.specs.Coded.{le_prop}
use mathlib.Core.HLevel.{is_prop→PathP}
use Rattle.bl_proc_writes.specs.declared.post.Post.{Post}
use Rattle.bl_proc_writes.specs.declared.post.PostStage.TheVariants as post
use Rattle.bl_proc_writes.specs.Levels.{IsBelowTop, IsBelowTop-prop, MayReply}
use Rattle.bl_proc_writes.specs.Stands.{Stands, Stands-prop}
use Rattle.bl_proc_writes.specs.InsertPosts.{posted_as, climbed_answer, climb_answer_in, IsLast}
use Rattle.bl_answers.specs.Hints.{left_hint}
use Rattle.bl_proc_writes.specs.Paths.{page_at, from_page, IsBlank as IsBlankPath}
use Rattle.bl_proc_writes.specs.Writes.{write_answer}
use Rattle.bl_proc_deterministic.specs.Courses.{GoesOn}
use Rattle.bl_proc_deterministic.specs.Frames.{op_of}
use Rattle.bl_proc_deterministic.proofs.Climbs.{climb_goes}
use Rattle.bl_proc_invariant.specs.Knowing.{know_of}
use Rattle.bl_proc_invariant.proofs.Noting.{blank_goes}
use Rattle.bl_store_rule.specs.declared.view.View.{View}
use Rattle.bl_index_rule.specs.declared.known.PassState.{PassState}
use Rattle.bl_index_rule.specs.Observed.{IsUnborn}
use Rattle.bl_index_events.specs.Rooms.{LacksPost, LacksWrite}
use Rattle.bl_index_events.specs.Runs.{IsDone, IsSameProcess, EndsAs}
use Rattle.bl_index_events.proofs.Ends.{climb_over}
use Rattle.bl_index_events.proofs.Rooms.{LacksClimb}
use Rattle.bl_index_edit.specs.declared.writers.Left.{Left}
use Rattle.bl_index_edit.specs.declared.writers.Left.TheVariants as left
use Rattle.bl_index_write.specs.declared.rising.Rising.{Rising}
use Rattle.bl_index_edit.specs.Insertions.{climbing, climb_unborn, climb_ending, climb_opened, climb_posted, climb_posting, first_post, next_post}
use Rattle.bl_index_write.specs.Climbing.{rises, rose, IsClimbOver}
use Rattle.bl_index_descend.specs.Events.{HoldsNone}
use Rattle.bl_index_write.specs.Kinds.{IsClimbAnswer}
use Rattle.bl_index_edit.specs.Writers.{left_reply}
use Rattle.bl_proc_writes.specs.declared.insert_post.Placing.{Placing}
use Rattle.bl_proc_writes.specs.declared.insert_post.Placing.TheVariants as place
use Rattle.bl_proc_writes.specs.Placings.{write_of}

module _ (key : ℕ) (placing : Placing) (path : Path) where
  -- One that is to begin is blank.
  pub unborn_blank : (none : IsBlankPath path) → key < unbounded → IsUnborn (climb_unborn key placing path none)
  unborn_blank none small = λ r is. subst (λ (z : Proc). IsBlank (know_of r.got r.child r.time z)) (sym is) (record { stage = refl; said = refl; holds = refl; goes = blank_goes path none; children = refl; passed = refl; sound = small })

  -- One that has not split its leaf ends.
  pub ends_unsplit : (l : Left) (state : Proc) → state ≡ climb_ending key placing path l → EndsAs state (climbing key placing path (climb.Over (climbed.Unsplit (left_reply l))) tt)
  ends_unsplit l state is = subst (λ (z : Proc). EndsAs z (climbing key placing path (climb.Over (climbed.Unsplit (left_reply l))) tt)) (sym is) (record {
    at_end = refl;
    over = climb_goes (record { key = key; placing = placing; path = path; stage = climb.Ending (climbed.Unsplit (left_reply l)); stands = tt }) seen.Done refl tt;
    ended = (refl, refl, refl, refl);
  })

-- what it is when it has opened a leaf that was not split
pub unsplit_opened : (key : ℕ) (placing : Placing) (path : Path) (l : Left) → ((there : Option ℕ) (separator : ℕ) → l ≡ left.Split there separator → ⊥) → climb_opened key placing path l ≡ climb_ending key placing path l
unsplit_opened key placing path (left.Kept there) not = refl
unsplit_opened key placing path (left.Changed noted) not = refl
unsplit_opened key placing path (left.Split there separator) not = absurd (not there separator refl)
unsplit_opened key placing path left.Refused not = refl

-- what it answers then
same_op : (a b : Reply) (h k : Option Hint) → Op a h ≡ Op b k → a ≡ b
same_op a b h k e = cc

pub unsplit_answer : (placing : Placing) (r : WriteReply) (said : Reply) (h : Option Hint) → write_answer (write_of placing) r ≡ Op said h → climbed_answer placing (climbed.Unsplit r) ≡ Answered said None None
unsplit_answer placing (written.Done there g) said h e = ap (λ z. Answered z None None) (same_op _ _ _ _ e)
unsplit_answer placing written.NoRoom said h e = ap (λ z. Answered z None None) (same_op _ _ _ _ e)

-- A post is the one of that key to that level at that stage.
post_same : (p q : Post) → p.level ≡ q.level → p.key ≡ q.key → p.stage ≡ q.stage → p ≡ q
post_same p q level key stage = λ i. record {
  level = level i;
  key = key i;
  stage = stage i;
  least = is_prop→PathP (λ i. 0 < level i) (λ i. le_prop) p.least q.least i;
  most = is_prop→PathP (λ i. level i ≤ 12) (λ i. le_prop) p.most q.most i;
  below = is_prop→PathP (λ i. IsBelowTop (level i) (stage i)) (λ i. IsBelowTop-prop (level i) (stage i)) p.below q.below i;
}

-- The post with which it goes on is the one that its leaf wants.
pub goes_with : (key : ℕ) (placing : Placing) (path : Path) (there : Option ℕ) (separator : ℕ) (p : Post) (stands : Stands key placing path (climb.Posting p)) → p.level ≡ 1 → p.key ≡ separator → p.stage ≡ post.Coming (from_page (page_at path 1))
    → climb_opened key placing path (left.Split there separator) ≡ climbing key placing path (climb.Posting p) stands
goes_with key placing path there separator p stands level named stage =
    let same = post_same (first_post path separator) p (sym level) (sym named) (sym stage) in
    λ i. climbing key placing path (climb.Posting (same i)) (is_prop→PathP (λ i. Stands key placing path (climb.Posting (same i))) (λ i. Stands-prop key placing path (climb.Posting (same i))) tt stands i)

-- and so is the one with which it goes on one level higher
pub goes_above : (key : ℕ) (placing : Placing) (level separator : ℕ) (path : Path) (next : ℕ) (may : level < 12) (k : ℕ) (a : Approach) (least : 0 < k) (most : k ≤ 12) → k ≡ level + 1 → a ≡ from_page (page_at path k)
    → climb_posted key placing level separator path (listed.Done (Some next)) may ≡ climb_posting key placing k next least most path (post.Coming a) tt tt
goes_above key placing level separator path next may k a least most e is =
    let same = post_same (next_post level path next may) (record { level = k; key = next; stage = post.Coming a; least = least; most = most; below = tt })
    (sym e) refl (ap (λ (z : ℕ). post.Coming (from_page (page_at path z))) (sym e) ∙ ap (λ (z : Approach). post.Coming z) (sym is)) in
    λ i. climbing key placing path (climb.Posting (same i)) (is_prop→PathP (λ i. Stands key placing path (climb.Posting (same i))) (λ i. Stands-prop key placing path (climb.Posting (same i))) tt tt i)

-- It does not matter why it may post there.
pub posting_alike : (key : ℕ) (placing : Placing) (level separator : ℕ) (path : Path) (least more : 0 < level) (most less : level ≤ 12) (a : Approach)
    → climb_posting key placing level separator least most path (post.Coming a) tt tt ≡ climb_posting key placing level separator more less path (post.Coming a) tt tt
posting_alike key placing level separator path least more most less a = λ i. climb_posting key placing level separator (is_prop→PathP (λ i. 0 < level) (λ i. le_prop) least more i) (is_prop→PathP (λ i. level ≤ 12) (λ i. le_prop) most less i) path (post.Coming a) tt tt

-- It begins a post with a way that holds nothing.
pub from_free : (page : ℕ) → HoldsNone (from_page page)
from_free zero = tt
from_free (suc page) = tt

-- There is one way on from the anchor.
pub rises_on : (j : Rising) (path : Path) (what : Seen) → Gives (approach_next way.Start) None what → GoesOn (rises j path (post.Coming way.Start) tt tt) what
rises_on j path what given = climb_goes (record { key = j.insertion.key; placing = j.insertion.placing; path = path; stage = climb.Posting (record { level = j.level; key = j.separator; stage = post.Coming way.Start; least = j.least; most = j.most; below = tt }); stands = tt }) what refl given

-- One that has opened its last parent ends.
pub rose_last : (j : Rising) (path : Path) (r : PostReply) (may : MayReply j.level r) → IsLast r → rose j path r may ≡ climbing j.insertion.key j.insertion.placing path (climb.Ending (climbed.Posted j.level j.separator r)) tt
rose_last j path (listed.Done None) may last = refl
rose_last j path (listed.Done (Some next)) may last = absurd last
rose_last j path listed.Already may last = refl
rose_last j path listed.Stale may last = refl
rose_last j path listed.NoRoom may last = refl
rose_last j path listed.TooTall may last = refl

pub ends_climb : (key : ℕ) (placing : Placing) (path : Path) (r : Climbed) (state : Proc) → state ≡ climbing key placing path (climb.Ending r) tt → EndsAs state (climbing key placing path (climb.Over r) tt)
ends_climb key placing path r state is = subst (λ (z : Proc). EndsAs z (climbing key placing path (climb.Over r) tt)) (sym is) (record {
  at_end = refl;
  over = climb_goes (record { key = key; placing = placing; path = path; stage = climb.Ending r; stands = tt }) seen.Done refl tt;
  ended = (refl, refl, refl, refl);
})

pub none_left : (level key : ℕ) (what : Posted) → (what ≡ posted.NoRoom → ⊥) → left_hint level key what ≡ None
none_left level key posted.Done not = refl
none_left level key posted.Already not = refl
none_left level key posted.Stale not = refl
none_left level key posted.NoRoom not = absurd (not refl)
none_left level key posted.TooTall not = refl

pub refused_post : (r : PostReply) → posted_as r ≡ posted.NoRoom → r ≡ listed.NoRoom
refused_post (listed.Done s) e = absurd (let f : posted.Done ≡ posted.NoRoom = e in cc)
refused_post listed.Already e = absurd (let f : posted.Already ≡ posted.NoRoom = e in cc)
refused_post listed.Stale e = absurd (let f : posted.Stale ≡ posted.NoRoom = e in cc)
refused_post listed.NoRoom e = refl
refused_post listed.TooTall e = absurd (let f : posted.TooTall ≡ posted.NoRoom = e in cc)

-- It has ended, and is of that key and value.
pub record IsEnded (q : InsertPost) (key : ℕ) (placing : Placing) : Type 0 where
  pub end : Climbed
  pub stage : q.stage ≡ climb.Over end
  pub key_is : q.key ≡ key
  pub placing_is : q.placing ≡ placing

pub ended : (pass : ℕ) (old e : PassState) (first : Proc) (q : InsertPost) (key : ℕ) (placing : Placing) → IsDone pass old e first (proc.InsertPost q) → op_of first ≡ Some (write_op key (write_of placing)) → IsEnded q key placing
ended pass old e first q key placing d is = (let over = climb_over d.before q key placing (d.op ∙ is) d.at_end d.takes in record { end = over.0; stage = over.1; key_is = over.2; placing_is = over.3 })

insert_answers : (placing : Placing) (r : Climbed) → IsClimbAnswer (Some (climbed_answer placing r))
insert_answers (place.Insert value) (climbed.Unsplit (written.Done None left)) = tt
insert_answers (place.Insert value) (climbed.Unsplit (written.Done (Some there) left)) = tt
insert_answers (place.Put value) (climbed.Unsplit (written.Done None left)) = tt
insert_answers (place.Put value) (climbed.Unsplit (written.Done (Some there) left)) = tt
insert_answers placing (climbed.Unsplit written.NoRoom) = tt
insert_answers placing (climbed.Posted level key r) = tt

pub has_answer : (q : InsertPost) (key : ℕ) (placing : Placing) (a : Option Answer) → IsEnded q key placing → a ≡ climb_answer_in q.placing q.stage → IsClimbAnswer a
has_answer q key placing a is e = subst IsClimbAnswer (sym (e ∙ ap (climb_answer_in q.placing) is.stage)) (insert_answers q.placing is.end)

some_one : {a b : Answer} → Some a ≡ Some b → a ≡ b
some_one e = cc

pub said_by : (q : InsertPost) (key : ℕ) (placing : Placing) (x : Answer) → (is : IsEnded q key placing) → climb_answer_in q.placing q.stage ≡ Some x → climbed_answer q.placing is.end ≡ x
said_by q key placing x is e = some_one (sym (ap (climb_answer_in q.placing) is.stage) ∙ e)

abbrev H : Type 0
H = Seat (Unit {0}) (View PassState)

same_said : (a b : Reply) (last other : Option Posted) (left right : Option Hint) → Answered a last left ≡ Answered b other right → a ≡ b
same_said a b last other left right e = cc

same_last : (a b : Reply) (last other : Option Posted) (left right : Option Hint) → Answered a last left ≡ Answered b other right → last ≡ other
same_last a b last other left right e = cc

same_left : (a b : Reply) (last other : Option Posted) (left right : Option Hint) → Answered a last left ≡ Answered b other right → left ≡ right
same_left a b last other left right e = cc

-- a write that met no room has not split its leaf
pub no_room_page : (h : H) (key : ℕ) (placing : Placing) (r : Climbed) (last : Option Posted) (left : Option Hint) → climbed_answer placing r ≡ Answered reply.NoRoom last left → LacksClimb h key placing r → LacksWrite key (write_of placing) h
no_room_page h key placing (climbed.Unsplit r) last left e lacks = lacks
no_room_page h key placing (climbed.Posted level separator r) last left e lacks = absurd (let f : reply.Inserted ≡ reply.NoRoom = same_said _ _ _ _ _ _ e in cc)

-- a post that is left met no room
pub record IsLeft (h : H) (level separator : ℕ) (last : Option Posted) (said : Reply) (Lacks : Type 0) : Type 0 where
  pub lacks : Lacks → LacksPost level separator h
  pub last_is : last ≡ Some posted.NoRoom
  pub said_is : said ≡ reply.Inserted

pub post_left : (h : H) (l k level separator : ℕ) (r : PostReply) → left_hint l k (posted_as r) ≡ Some (hint.Post level separator) → (posted_as r ≡ posted.NoRoom) × (LacksPost l k h → LacksPost level separator h)
post_left h l k level separator (listed.Done s) e = absurd (let f = e in cc)
post_left h l k level separator listed.Already e = absurd (let f = e in cc)
post_left h l k level separator listed.Stale e = absurd (let f = e in cc)
post_left h l k level separator listed.NoRoom e = (refl, λ lacks. subst (λ (z : ℕ × ℕ). LacksPost z.0 z.1 h) (same e) lacks)
  where
    same : {a b c d : ℕ} → Some (hint.Post a b) ≡ Some (hint.Post c d) → ◌≡◌ {A = ℕ × ℕ} (a, b) (c, d)
    same f = cc
post_left h l k level separator listed.TooTall e = absurd (let f = e in cc)

pub left_post : (h : H) (key : ℕ) (placing : Placing) (r : Climbed) (said : Reply) (last : Option Posted) (level separator : ℕ) → climbed_answer placing r ≡ Answered said last (Some (hint.Post level separator)) → IsLeft h level separator last said (LacksClimb h key placing r)
left_post h key placing (climbed.Unsplit r) said last level separator e = absurd (let f : None ≡ Some (hint.Post level separator) = same_left _ _ _ _ _ _ e in cc)
left_post h key placing (climbed.Posted l k r) said last level separator e =
    let left = post_left h l k level separator r (same_left _ _ _ _ _ _ e) in
    record {
      lacks = left.1;
      last_is = sym (same_last _ _ _ _ _ _ e) ∙ ap Some left.0;
      said_is = sym (same_said _ _ _ _ _ _ e);
    }

-- what became of a write, from an earlier state of its pass on
pub climb_since : (key : ℕ) (placing : Placing) (d e : PassState) (h : H) (said : Reply) (last : Option Posted) (left : Option Hint) → IsSameProcess d e → IsClimbOver key placing e h said last left → IsClimbOver key placing d h said last left
climb_since key placing d e h said last left same over = record {
  rests = over.rests;
  empty = over.empty;
  is_climbed = λ pass old since. over.is_climbed pass old (same pass old since);
  no_room = over.no_room;
  entered = over.entered;
  lacks = over.lacks;
}
