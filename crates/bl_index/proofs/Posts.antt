-- What a post tells its caller.
use Rattle.std.proofs.Common.{ℕ, ◌≡◌, ◌+◌, Option, Some, None, List, refl, ap, ◌∙◌, subst}
use Rattle.bl_page.specs.declared.page.Page.{Page}
use Rattle.bl_claims.specs.Trails.{Trail, marks_of}
use Rattle.bl_proc_steps.specs.declared.acts.Action.TheVariants as act
use Rattle.bl_answers.specs.declared.answers.Hint.{Hint}
use Rattle.bl_answers.specs.declared.answers.Posted.{Posted}
use Rattle.bl_answers.specs.declared.answers.Answer.TheVariants as answer
use Rattle.bl_proc_writes.specs.declared.post.Post.{Post}
use Rattle.bl_proc_writes.specs.declared.post.PostStage.{PostStage}
use Rattle.bl_proc_writes.specs.declared.post.PostStage.TheVariants as post
use Rattle.bl_proc.specs.declared.kinds.Proc.{Proc}
use Rattle.bl_proc.specs.declared.kinds.Proc.TheVariants as proc
use Rattle.bl_proc_writes.specs.Posts.{post_next_in, post_answer}
use Rattle.bl_claims.specs.Answers.{MeansPosted}
use Rattle.bl_proc_invariant.specs.Tables.{alone}
use Rattle.bl_proc_invariant.specs.Knowing.{know_of, know_post}
use Rattle.bl_proc_invariant.proofs.Answered.{stage_means}
use Rattle.bl_proc_deterministic.specs.Frames.{work_of}
use Rattle.bl_index_rule.specs.declared.known.PassState.{PassState}
use Rattle.bl_claims.specs.Seeing.{name}
use Rattle.bl_index.specs.Calls.{Posts}
use Rattle.bl_index_events.specs.Answered.{InCall}
use Rattle.bl_index_events.specs.Held.{own_marks}
use Rattle.bl_index_events.specs.Runs.{IsDone}
use Rattle.bl_index_events.proofs.Quiet.{quiet_adds}
use Rattle.bl_index_events.proofs.Ends.{not_end_way, not_end, own_done}
use Rattle.bl_index_write.proofs.PostEnds.{not_end_growth, is_posting as posting}

silent_at_end : (level key : ℕ) (got : ℕ → Page) (child : ℕ) (a : PostStage) → post_next_in a ≡ act.End → (know_post alone level key got child a).said ≡ None
silent_at_end level key got child post.New e = cc
silent_at_end level key got child (post.Coming a) e = absurd (not_end_way a e)
silent_at_end level key got child (post.Growing g) e = absurd (not_end_growth g e)
silent_at_end level key got child (post.Walking w) e = cc
silent_at_end level key got child (post.Editing c) e = absurd (not_end c e)
silent_at_end level key got child (post.Staying x r) e = cc
silent_at_end level key got child (post.Ending r) e = refl
silent_at_end level key got child (post.Over r) e = refl

pub post_answered : (from : List (Option Page)) (pass : ℕ) (old e : PassState) (first : Proc) (q : Post) (level key : ℕ) (what : Posted) (next : Option Hint) → IsDone pass old e first (proc.Post q) → old.first ≡ from → work_of first ≡ Some (level, key) → post_answer q ≡ Some (answer.Post what next) → Posts from pass level key what next old.trail e.trail
post_answered from pass old e first q level key what next d begins is a =
    let p = posting d.before q level key (d.work ∙ is) d.at_end d.takes in
    let marks : Trail = marks_of (name pass (old.number + 1)) e.trail in
    record {
      adds = quiet_adds from pass old e first (proc.Post q) (proc.Post p.old) d begins p.before_is refl (λ r h. ap (λ (z : Proc). (know_of r.got r.child r.time z).said) h ∙ silent_at_end p.old.level p.old.key r.got r.child p.old.stage p.at_end);
      means = subst (λ (z : ℕ × ℕ). MeansPosted z.0 z.1 what next marks) (λ i. (p.level_is i, p.key_is i)) (stage_means q.level q.key q.stage what next marks a d.log);
      latches = d.tidy;
    }

pub post_in_call : (from : List (Option Page)) (pass : ℕ) (old e : PassState) (first : Proc) (q : Post) (level key : ℕ) (IsSo : Trail → Type 0) → IsDone pass old e first (proc.Post q) → old.first ≡ from → work_of first ≡ Some (level, key) → IsSo (own_marks e) → InCall pass None old.trail e.trail IsSo
post_in_call from pass old e first q level key IsSo d begins is so =
    let p = posting d.before q level key (d.work ∙ is) d.at_end d.takes in
    let adds = quiet_adds from pass old e first (proc.Post q) (proc.Post p.old) d begins p.before_is refl (λ r h. ap (λ (z : Proc). (know_of r.got r.child r.time z).said) h ∙ silent_at_end p.old.level p.old.key r.got r.child p.old.stage p.at_end) in
    record { number = old.number + 1; holds = adds.holds; is = subst IsSo (own_done pass old e first (proc.Post q) d) so }
