-- An answered compression tells what its answer means.
use Rattle.std.proofs.Common.{ℕ, ◌≡◌, Option, Some, refl, subst}
use Rattle.bl_page.specs.Machine.{Name}
use Rattle.bl_claims.specs.Trails.{Trail, marks_of}
use Rattle.bl_tree_worlds.specs.Worlds.{World}
use Rattle.bl_answers.specs.declared.answers.Answer.{Answer}
use Rattle.bl_answers.specs.declared.answers.Answer.TheVariants as answer
use Rattle.bl_answers.specs.declared.answers.Hint.{Hint}
use Rattle.bl_answers.specs.declared.answers.Squeezed.{Squeezed}
use Rattle.bl_proc_compress.specs.declared.compress.Compress.{Compress}
use Rattle.bl_proc_compress.specs.declared.compress.CompressReply.{CompressReply}
use Rattle.bl_proc_compress.specs.declared.compress.CompressReply.TheVariants as reply
use Rattle.bl_proc_compress.specs.declared.compress.CompressStage.{CompressStage}
use Rattle.bl_proc_compress.specs.declared.compress.CompressStage.TheVariants as compress
use Rattle.bl_proc.specs.declared.kinds.Proc.TheVariants as proc
use Rattle.bl_proc_compress.specs.Compresses.{compressed_answer, compress_answer_in}
use Rattle.bl_claims.specs.Squeezed.{MeansSqueezed}
use Rattle.bl_proc_invariant.specs.Logs.{compress_reply_log, compress_log, proc_log, AllLogs}
use Rattle.bl_proc_invariant.specs.Knowing.{Run}

same_squeezed : (p q : Squeezed) (h i : Option Hint) → answer.Compress p h ≡ answer.Compress q i → p ≡ q
same_squeezed p q h i e = cc

same_hint : (p q : Squeezed) (h i : Option Hint) → answer.Compress p h ≡ answer.Compress q i → h ≡ i
same_hint p q h i e = cc

-- both at once
to_answer : (level key : ℕ) (p q : Squeezed) (h i : Option Hint) (marks : Trail) → answer.Compress p h ≡ answer.Compress q i → MeansSqueezed level key p h marks → MeansSqueezed level key q i marks
to_answer level key p q h i marks e is = subst (λ z. MeansSqueezed level key q z marks) (same_hint p q h i e) (subst (λ z. MeansSqueezed level key z h marks) (same_squeezed p q h i e) is)

reply_means : (level key : ℕ) (r : CompressReply) (q : Squeezed) (h : Option Hint) (marks : Trail) → compressed_answer r ≡ answer.Compress q h → compress_reply_log level key r marks → MeansSqueezed level key q h marks
reply_means level key (reply.Merged hint) q h marks e log = to_answer level key _ q _ h marks e log
reply_means level key reply.Evened q h marks e log = to_answer level key _ q _ h marks e (log, refl)
reply_means level key reply.Enough q h marks e log = to_answer level key _ q _ h marks e (log, refl)
reply_means level key reply.Alone q h marks e log = to_answer level key _ q _ h marks e (log, refl)
reply_means level key (reply.Unposted hint) q h marks e log = to_answer level key _ q _ h marks e (hint, refl, log)
reply_means level key reply.NoRoom q h marks e log = to_answer level key _ q _ h marks e (log, refl)

some_answer : (a b : Answer) → Some a ≡ Some b → a ≡ b
some_answer a b e = cc

pub stage_means : (level key : ℕ) (stage : CompressStage) (q : Squeezed) (h : Option Hint) (marks : Trail) → compress_answer_in stage ≡ Some (answer.Compress q h) → compress_log level key stage marks → MeansSqueezed level key q h marks
stage_means level key (compress.Over r) q h marks e log = reply_means level key r q h marks (some_answer _ _ e) log
stage_means level key old q h marks e log = absurd (let f = e in cc)

-- In every world whose processes have done what they tell, what a compression has answered means what it says, with the hint beside it.
pub compress_means : (w : World Run) (n : Name) (a : Compress) (q : Squeezed) (h : Option Hint) → AllLogs w → (w.proc n).state ≡ proc.Compress a → compress_answer_in a.stage ≡ Some (answer.Compress q h) → MeansSqueezed a.level a.key q h (marks_of n w.trail)
compress_means w n a q h logs is e = stage_means a.level a.key a.stage q h (marks_of n w.trail) e (subst (λ s. proc_log s (marks_of n w.trail)) is (logs n))
