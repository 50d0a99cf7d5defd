-- How a post ends.
use Rattle.std.proofs.Common.{ℕ, ◌≡◌, ◌≢◌, Option, Some, refl, sym, ◌∙◌, subst}
use Rattle.bl_proc_steps.specs.declared.acts.Action.TheVariants as act
use Rattle.bl_proc_steps.specs.declared.acts.Seen.TheVariants as seen
use Rattle.bl_answers.specs.declared.answers.Answer.{Answer}
use Rattle.bl_proc_steps.specs.declared.growth.Growth.{Growth}
use Rattle.bl_proc_steps.specs.declared.growth.Growth.TheVariants as growth
use Rattle.bl_proc_steps.specs.Growths.{growth_next}
use Rattle.bl_proc_writes.specs.declared.post.Post.{Post}
use Rattle.bl_proc_writes.specs.declared.post.PostReply.{PostReply}
use Rattle.bl_proc_writes.specs.declared.post.PostReply.TheVariants as reply
use Rattle.bl_proc_writes.specs.Levels.{MayReply}
use Rattle.bl_proc_deterministic.proofs.Posts.{post_goes}
use Rattle.bl_index_write.specs.declared.targets.Posting.{Posting}
use Rattle.bl_proc_writes.specs.declared.post.PostStage.{PostStage}
use Rattle.bl_proc_writes.specs.declared.post.PostStage.TheVariants as post
use Rattle.bl_proc.specs.declared.kinds.Proc.{Proc}
use Rattle.bl_proc.specs.declared.kinds.Proc.TheVariants as proc
use Rattle.bl_proc_writes.specs.Posts.{post_next_in, post_answer_in, post_answer, PostGoes}
use Rattle.bl_proc.specs.Processes.{next_of, Takes}
use Rattle.bl_proc_deterministic.specs.Frames.{work_of}
use Rattle.atomic_table.specs.declared.shared.Seat.{Seat}
use Rattle.bl_answers.specs.declared.answers.Hint.{Hint}
use Rattle.bl_answers.specs.declared.answers.Posted.{Posted}
use Rattle.bl_store_rule.specs.declared.view.View.{View}
use Rattle.bl_index_rule.specs.declared.known.PassState.{PassState}
use Rattle.bl_index_events.specs.Runs.{IsDone, IsSameProcess, EndsAs}
use Rattle.bl_index_write.specs.Events.{HasPosted, IsPostAnswer, IsPostOver, posting}
use Rattle.bl_index_events.proofs.Quiet.{first_of, second_of}
use Rattle.bl_index_events.proofs.Ends.{not_end_way, not_end}

pub not_end_growth : (g : Growth) → growth_next g ≢ act.End
not_end_growth growth.Latching e = cc
not_end_growth growth.Latched e = cc
not_end_growth (growth.Taking rise) e = cc
not_end_growth (growth.PuttingTop r) e = cc
not_end_growth (growth.PuttingAnchor r) e = cc
not_end_growth (growth.OpeningTop x) e = cc
not_end_growth growth.OpeningGrown e = cc
not_end_growth growth.OpeningRefused e = cc

answers_at_end : (at level key : ℕ) (a b : PostStage) → post_next_in a ≡ act.End → PostGoes level key a seen.Done b → IsPostAnswer (post_answer_in at b)
answers_at_end at level key post.New b e t = cc
answers_at_end at level key (post.Coming a) b e t = absurd (not_end_way a e)
answers_at_end at level key (post.Growing g) b e t = absurd (not_end_growth g e)
answers_at_end at level key (post.Walking w) b e t = cc
answers_at_end at level key (post.Editing c) b e t = absurd (not_end c e)
answers_at_end at level key (post.Staying x r) b e t = cc
answers_at_end at level key (post.Over r) b e t = absurd t
answers_at_end at level key (post.Ending r) post.New e t = absurd t
answers_at_end at level key (post.Ending r) (post.Coming a) e t = absurd t
answers_at_end at level key (post.Ending r) (post.Growing g) e t = absurd t
answers_at_end at level key (post.Ending r) (post.Walking w) e t = absurd t
answers_at_end at level key (post.Ending r) (post.Editing c) e t = absurd t
answers_at_end at level key (post.Ending r) (post.Staying x q) e t = absurd t
answers_at_end at level key (post.Ending r) (post.Ending q) e t = absurd t
answers_at_end at level key (post.Ending r) (post.Over (reply.Done s)) e t = tt
answers_at_end at level key (post.Ending r) (post.Over reply.Already) e t = tt
answers_at_end at level key (post.Ending r) (post.Over reply.Stale) e t = tt
answers_at_end at level key (post.Ending r) (post.Over reply.NoRoom) e t = tt
answers_at_end at level key (post.Ending r) (post.Over reply.TooTall) e t = tt

-- a post that ends at its next action, and is then q
pub record IsPosting (before : Proc) (q : Post) (level key : ℕ) : Type 0 where
  pub old : Post
  pub before_is : before ≡ proc.Post old
  pub level_is : q.level ≡ level
  pub key_is : q.key ≡ key
  pub at_end : post_next_in old.stage ≡ act.End
  pub goes : PostGoes old.level old.key old.stage seen.Done q.stage

pub is_posting : (before : Proc) (q : Post) (level key : ℕ) → work_of before ≡ Some (level, key) → next_of before ≡ act.End → Takes before seen.Done (proc.Post q) → IsPosting before q level key
is_posting (proc.Post p) q level key is e t = record { old = p; before_is = refl; level_is = t.0 ∙ first_of is; key_is = t.1 ∙ second_of is; at_end = e; goes = t.2 }
is_posting other q level key is e t = absurd t

pub post_has_answer : (pass : ℕ) (old e : PassState) (first : Proc) (q : Post) (level key : ℕ) → IsDone pass old e first (proc.Post q) → work_of first ≡ Some (level, key) → (what : Option Answer) → what ≡ post_answer q → IsPostAnswer what
post_has_answer pass old e first q level key d is what a =
    let p = is_posting d.before q level key (d.work ∙ is) d.at_end d.takes in
    subst IsPostAnswer (sym a) (answers_at_end q.level p.old.level p.old.key p.old.stage q.stage p.at_end p.goes)

-- it is still the post of that key to that level
pub post_named : (pass : ℕ) (old e : PassState) (first : Proc) (q : Post) (level key : ℕ) → IsDone pass old e first (proc.Post q) → work_of first ≡ Some (level, key) → (q.level ≡ level) × (q.key ≡ key)
post_named pass old e first q level key d is = let p = is_posting d.before q level key (d.work ∙ is) d.at_end d.takes in (p.level_is, p.key_is)

-- It has opened its parent, and ends.
pub ends_post : (j : Posting) (r : PostReply) (may : MayReply j.level r) (state : Proc) → state ≡ posting j (post.Ending r) may → EndsAs state (posting j (post.Over r) may)
ends_post j r may state is = subst (λ (z : Proc). EndsAs z (posting j (post.Over r) may)) (sym is) (record {
  at_end = refl;
  over = post_goes (record { level = j.level; key = j.key; stage = post.Ending r; least = j.least; most = j.most; below = may }) seen.Done refl tt;
  ended = (refl, refl, refl);
})

abbrev H : Type 0
H = Seat (Unit {0}) (View PassState)

-- what became of a post, from an earlier state of its pass on
pub over_since : (j : Posting) (d e : PassState) (h : H) (what : Posted) (hint : Option Hint) → IsSameProcess d e → IsPostOver j e h what hint → IsPostOver j d h what hint
over_since j d e h what hint same over = record {
  rests = over.rests;
  empty = over.empty;
  no_room = over.no_room;
  is_posted = λ pass old since. over.is_posted pass old (same pass old since);
}

pub posted_first : (j : Posting) (pass : ℕ) (old e : PassState) (what : Posted) (hint : Option Hint) → HasPosted pass old e (posting j post.New tt) what hint → (first : Proc) × (work_of first ≡ Some (j.level, j.key)) × HasPosted pass old e first what hint
posted_first j pass old e what hint posted = (posting j post.New tt, refl, posted)
