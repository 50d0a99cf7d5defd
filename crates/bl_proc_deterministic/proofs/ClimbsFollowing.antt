-- What an insertion that posts wants, and what follows.
use Rattle.std.proofs.Common.{ℕ, ◌≡◌, ◌≢◌, ◌+◌, Some, None, refl, sym, ap, subst}
use Rattle.bl_model.specs.Writes.{write_op}
use Rattle.bl_proc_steps.specs.declared.acts.Action.{Action}
use Rattle.bl_proc_steps.specs.declared.acts.Action.TheVariants as act
use Rattle.bl_proc_steps.specs.declared.acts.Seen.{Seen}
use Rattle.bl_proc_writes.specs.declared.paths.Path.{Path}
use Rattle.bl_proc_writes.specs.declared.post.PostStage.{PostStage}
use Rattle.bl_proc_writes.specs.declared.post.PostStage.TheVariants as post
use Rattle.bl_proc_writes.specs.declared.insert_post.InsertPost.{InsertPost}
use Rattle.bl_proc_writes.specs.declared.insert_post.Placing.{Placing}
use Rattle.bl_proc_writes.specs.Placings.{write_of}
use Rattle.bl_proc_writes.specs.declared.insert_post.ClimbStage.{ClimbStage}
use Rattle.bl_proc_writes.specs.declared.insert_post.ClimbStage.TheVariants as climb
use Rattle.bl_proc.specs.declared.kinds.Proc.TheVariants as proc
use Rattle.bl_proc_writes.specs.Paths.{page_at, from_page}
use Rattle.bl_proc_writes.specs.Writes.{write_next_in, write_needs_in}
use Rattle.bl_proc_writes.specs.Posts.{post_next_in, post_needs_in}
use Rattle.bl_proc_writes.specs.InsertPosts.{climb_next_in, climb_needs_in, climb_answer_in}
use Rattle.bl_proc.specs.Processes.{next_of, Takes}
use Rattle.bl_proc_deterministic.specs.Frames.{write_frames, post_frames, climb_frames, Wants, Leaves, Follows}
use Rattle.bl_proc_deterministic.specs.Retirements.{RetiresAfter}
use Rattle.bl_proc_deterministic.proofs.Following.{not_begin_way}
use Rattle.bl_proc_deterministic.proofs.PostsFollowing.{post_wants, post_leaves, post_begun}
use Rattle.bl_proc_deterministic.proofs.WritingsFollowing.{write_wants, write_leaves, write_begun}
use Rattle.bl_proc_deterministic.proofs.Retirements.{write_none, post_none}
use Rattle.bl_proc_deterministic.proofs.KindCases.{ClimbCase, climb_case}

pub climb_wants : (p : InsertPost) → Wants (climb_next_in p.stage) (climb_needs_in p.stage) (climb_frames p.stage)
climb_wants p = wants p.stage
  where
    wants : (a : ClimbStage) → Wants (climb_next_in a) (climb_needs_in a) (climb_frames a)
    wants (climb.Writing w) = write_wants w
    wants (climb.Posting q) = post_wants q
    wants (climb.Ending r) = refl
    wants (climb.Over r) = refl

-- a post that begins at a page has reserved nothing, and is on its way
from_frames : (a : PostStage) (x : ℕ) → a ≡ post.Coming (from_page x) → post_frames a ≡ 0
from_frames a x is = ap post_frames is

climb_leaves : {path : Path} {a b : ClimbStage} {what : Seen} → ClimbCase path a what b → Leaves (climb_next_in a) (climb_needs_in a) what (climb_frames a) (climb_frames b)
climb_leaves (ClimbCase.Wrote w what v h t) = write_leaves h
climb_leaves {path} (ClimbCase.Split w what there level separator q h t) = subst (λ z. Leaves (write_next_in w.stage) (write_needs_in w.stage) what (write_frames w.stage) z) (sym (from_frames q.stage (page_at path level) t.2)) (write_leaves h)
climb_leaves (ClimbCase.Unsplit w what r last h t) = write_leaves h
climb_leaves (ClimbCase.Posted p what q h t) = post_leaves h
climb_leaves {path} (ClimbCase.Higher p what separator q h t) = subst (λ z. Leaves (post_next_in p.stage) (post_needs_in p.stage) what (post_frames p.stage) z) (sym (from_frames q.stage (page_at path (p.level + 1)) t.2)) (post_leaves h)
climb_leaves (ClimbCase.Finished p what r last h t) = post_leaves h
climb_leaves (ClimbCase.Ended r last t) = refl

climb_begun : {path : Path} {a b : ClimbStage} {what : Seen} → ClimbCase path a what b → climb_next_in b ≢ act.Begin
climb_begun (ClimbCase.Wrote w what v h t) e = write_begun h e
climb_begun {path = path} (ClimbCase.Split w what there level separator q h t) e = not_begin_way (from_page (page_at path level)) (subst (λ z. post_next_in z ≡ act.Begin) t.2 e)
climb_begun (ClimbCase.Unsplit w what r last h t) e = cc
climb_begun (ClimbCase.Posted p what q h t) e = post_begun h e
climb_begun {path = path} (ClimbCase.Higher p what separator q h t) e = not_begin_way (from_page (page_at path (p.level + 1))) (subst (λ z. post_next_in z ≡ act.Begin) t.2 e)
climb_begun (ClimbCase.Finished p what r last h t) e = cc
climb_begun (ClimbCase.Ended r last t) e = cc

climb_running : {path : Path} {a b : ClimbStage} {what : Seen} (placing : Placing) → ClimbCase path a what b → climb_next_in a ≢ act.End → climb_answer_in placing b ≡ None
climb_running placing (ClimbCase.Ended r last t) ne = absurd (ne refl)
climb_running placing other ne = refl

pub climb_follows : (p q : InsertPost) (what : Seen) → Takes (proc.InsertPost p) what (proc.InsertPost q) → Follows (proc.InsertPost p) what (proc.InsertPost q)
climb_follows p q what t = (let is = climb_case q.path p.stage what q.stage t.3 in record {
  frames = climb_leaves is;
  begun = climb_begun is;
  op = λ i. Some (write_op (t.0 i) (write_of (t.1 i)));
  work = refl;
  running = λ ne. climb_running q.placing is ne;
})

-- it retires no page
stage_none : (old : Action) (what : Seen) (b : ClimbStage) → RetiresAfter old what (climb_next_in b)
stage_none old what (climb.Writing w) = write_none old what w.stage
stage_none old what (climb.Posting q) = post_none old what q.stage
stage_none old what (climb.Ending r) = tt
stage_none old what (climb.Over r) = tt

pub climb_retires : (p q : InsertPost) (what : Seen) → Takes (proc.InsertPost p) what (proc.InsertPost q) → RetiresAfter (next_of (proc.InsertPost p)) what (next_of (proc.InsertPost q))
climb_retires p q what t = stage_none (next_of (proc.InsertPost p)) what q.stage
