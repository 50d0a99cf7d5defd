-- An answered post tells what its answer means.
use Rattle.std.proofs.Common.{ℕ, ◌≡◌, Option, Some, sym, subst}
use Rattle.bl_claims.specs.Trails.{Trail, marks_of}
use Rattle.bl_page.specs.Machine.{Name}
use Rattle.bl_tree_worlds.specs.Worlds.{World}
use Rattle.bl_answers.specs.declared.answers.Answer.{Answer}
use Rattle.bl_answers.specs.declared.answers.Answer.TheVariants as answer
use Rattle.bl_answers.specs.declared.answers.Posted.{Posted}
use Rattle.bl_answers.specs.declared.answers.Hint.{Hint}
use Rattle.bl_proc_writes.specs.declared.post.Post.{Post}
use Rattle.bl_proc_writes.specs.declared.post.PostReply.{PostReply}
use Rattle.bl_proc_writes.specs.declared.post.PostReply.TheVariants as reply
use Rattle.bl_proc_writes.specs.declared.post.PostStage.{PostStage}
use Rattle.bl_proc_writes.specs.declared.post.PostStage.TheVariants as post
use Rattle.bl_proc.specs.declared.kinds.Proc.TheVariants as proc
use Rattle.bl_proc_writes.specs.Posts.{posted_answer, post_answer_in}
use Rattle.bl_proc_invariant.specs.Logs.{reply_log, post_log, proc_log, AllLogs}
use Rattle.bl_claims.specs.Answers.{MeansPosted}
use Rattle.bl_proc_invariant.specs.Knowing.{Run}

same_posted : (p q : Posted) (h i : Option Hint) → answer.Post p h ≡ answer.Post q i → p ≡ q
same_posted p q h i e = cc

same_hint : (p q : Posted) (h i : Option Hint) → answer.Post p h ≡ answer.Post q i → h ≡ i
same_hint p q h i e = cc

reply_means : (level key : ℕ) (r : PostReply) (p : Posted) (h : Option Hint) (marks : Trail) → posted_answer level r ≡ answer.Post p h → reply_log level key r marks → MeansPosted level key p h marks
reply_means level key (reply.Done s) p h marks e log = subst (λ z. MeansPosted level key z h marks) (same_posted _ _ _ _ e) (s, log, sym (same_hint _ _ _ _ e))
reply_means level key reply.Already p h marks e log = subst (λ z. MeansPosted level key z h marks) (same_posted _ _ _ _ e) (log, sym (same_hint _ _ _ _ e))
reply_means level key reply.Stale p h marks e log = subst (λ z. MeansPosted level key z h marks) (same_posted _ _ _ _ e) (log, sym (same_hint _ _ _ _ e))
reply_means level key reply.NoRoom p h marks e log = subst (λ z. MeansPosted level key z h marks) (same_posted _ _ _ _ e) (log, sym (same_hint _ _ _ _ e))
reply_means level key reply.TooTall p h marks e log = subst (λ z. MeansPosted level key z h marks) (same_posted _ _ _ _ e) (log, sym (same_hint _ _ _ _ e))

some_answer : (a b : Answer) → Some a ≡ Some b → a ≡ b
some_answer a b e = cc

pub stage_means : (level key : ℕ) (stage : PostStage) (p : Posted) (h : Option Hint) (marks : Trail) → post_answer_in level stage ≡ Some (answer.Post p h) → post_log level key stage marks → MeansPosted level key p h marks
stage_means level key (post.Over r) p h marks e log = reply_means level key r p h marks (some_answer _ _ e) log
stage_means level key old p h marks e log = absurd (let f = e in cc)

-- In every world whose processes have done what they tell, what a post has answered means what it says, with the hint beside it.
pub post_means : (w : World Run) (n : Name) (a : Post) (p : Posted) (h : Option Hint) → AllLogs w → (w.proc n).state ≡ proc.Post a → post_answer_in a.level a.stage ≡ Some (answer.Post p h) → MeansPosted a.level a.key p h (marks_of n w.trail)
post_means w n a p h logs is e = stage_means a.level a.key a.stage p h (marks_of n w.trail) e (subst (λ s. proc_log s (marks_of n w.trail)) is (logs n))
