-- What a write that posts has answered means what it says.
use Rattle.std.proofs.Common.{ℕ, ◌≡◌, Option, None, Some, refl, subst}
use Rattle.bl_model.specs.declared.operation.Reply.{Reply}
use Rattle.bl_model.specs.declared.deciding.Effect.TheVariants.{Enter}
use Rattle.bl_model.specs.Writes.{effect_of, replied}
use Rattle.bl_page.specs.Machine.{Name}
use Rattle.bl_claims.specs.Trails.{Trail, marks_of}
use Rattle.bl_tree_worlds.specs.Worlds.{World}
use Rattle.bl_answers.specs.declared.answers.Answer.{Answer}
use Rattle.bl_answers.specs.declared.answers.Answer.TheVariants as answer
use Rattle.bl_answers.specs.declared.answers.Hint.{Hint}
use Rattle.bl_answers.specs.declared.answers.Hint.TheVariants as hint
use Rattle.bl_answers.specs.declared.answers.Posted.{Posted}
use Rattle.bl_proc_writes.specs.declared.writing.WriteReply.{WriteReply}
use Rattle.bl_proc_writes.specs.declared.writing.WriteReply.TheVariants as written
use Rattle.bl_proc_writes.specs.declared.insert_post.InsertPost.{InsertPost}
use Rattle.bl_proc_writes.specs.declared.insert_post.Climbed.{Climbed}
use Rattle.bl_proc_writes.specs.declared.insert_post.Climbed.TheVariants as climbed
use Rattle.bl_proc_writes.specs.declared.insert_post.ClimbStage.{ClimbStage}
use Rattle.bl_proc_writes.specs.declared.insert_post.ClimbStage.TheVariants as climb
use Rattle.bl_proc.specs.declared.kinds.Proc.TheVariants as proc
use Rattle.bl_answers.specs.Hints.{post_hint}
use Rattle.bl_proc_writes.specs.InsertPosts.{placed_reply, climbed_answer, IsUnsplit, climb_answer_in}
use Rattle.bl_claims.specs.Hinted.{MeansWritten}
use Rattle.bl_claims.specs.Climbed.{MeansClimbed}
use Rattle.bl_proc_invariant.specs.Logs.{effect_log, written_log, climbed_log, climb_log, proc_log, AllLogs}
use Rattle.bl_proc_invariant.specs.Knowing.{Run}
use Rattle.bl_proc_invariant.proofs.Beside.{effect_means}
use Rattle.bl_proc_writes.specs.declared.insert_post.Placing.{Placing}
use Rattle.bl_proc_writes.specs.declared.insert_post.Placing.TheVariants as place
use Rattle.bl_proc_writes.specs.Placings.{write_of}

-- only a write that has split its leaf leaves a hint, where no pair is taken away
entered_hint : (value : ℕ) (there : Option ℕ) (left : Option Hint) (marks : Trail) → IsUnsplit (written.Done there left) → effect_log (Enter value) left marks → left ≡ None
entered_hint value there None marks unsplit log = refl
entered_hint value there (Some (hint.Post level separator)) marks unsplit log = absurd unsplit
entered_hint value there (Some (hint.Thin level low)) marks unsplit log = absurd (never log.0 log.2)
  where
    never : (split : Option ℕ) → Some (hint.Thin level low) ≡ post_hint 1 split → ⊥
    never None e = (let f = e in cc)
    never (Some separator) e = (let f = e in cc)

no_hint : (placing : Placing) (there : Option ℕ) (left : Option Hint) (marks : Trail) → IsUnsplit (written.Done there left) → effect_log (effect_of (write_of placing) there) left marks → left ≡ None
no_hint (place.Insert value) None left marks unsplit log = entered_hint value None left marks unsplit log
no_hint (place.Insert value) (Some other) left marks unsplit log = log.1
no_hint (place.Put value) None left marks unsplit log = entered_hint value None left marks unsplit log
no_hint (place.Put value) (Some other) left marks unsplit log = log.3

unsplit_means : (placing : Placing) (r : WriteReply) (marks : Trail) → written_log (write_of placing) r marks → IsUnsplit r → MeansWritten (placed_reply placing r) None marks
unsplit_means placing (written.Done there left) marks log unsplit = subst (λ z. MeansWritten (replied (write_of placing) there) z marks) (no_hint placing there left marks unsplit log) (effect_means (write_of placing) there left marks log)
unsplit_means placing written.NoRoom marks log unsplit = (log, refl)

same_reply : (p q : Reply) (a b : Option Posted) (h i : Option Hint) → answer.InsertPost p a h ≡ answer.InsertPost q b i → p ≡ q
same_reply p q a b h i e = cc

same_posted : (p q : Reply) (a b : Option Posted) (h i : Option Hint) → answer.InsertPost p a h ≡ answer.InsertPost q b i → a ≡ b
same_posted p q a b h i e = cc

same_hint : (p q : Reply) (a b : Option Posted) (h i : Option Hint) → answer.InsertPost p a h ≡ answer.InsertPost q b i → h ≡ i
same_hint p q a b h i e = cc

some_answer : (a b : Answer) → Some a ≡ Some b → a ≡ b
some_answer a b e = cc

-- an answer means what another one means that is the same
means_same : (p q : Reply) (a b : Option Posted) (h i : Option Hint) (marks : Trail) → answer.InsertPost p a h ≡ answer.InsertPost q b i → MeansClimbed p a h marks → MeansClimbed q b i marks
means_same p q a b h i marks e is =
    subst (λ z. MeansClimbed q b z marks) (same_hint p q a b h i e) (subst (λ z. MeansClimbed q z h marks) (same_posted p q a b h i e) (subst (λ z. MeansClimbed z a h marks) (same_reply p q a b h i e) is))

climbed_means : (placing : Placing) (r : Climbed) (p : Reply) (a : Option Posted) (h : Option Hint) (marks : Trail) → climbed_answer placing r ≡ answer.InsertPost p a h → climbed_log placing r marks → MeansClimbed p a h marks
climbed_means placing (climbed.Unsplit r) p a h marks e log = means_same _ _ _ _ _ _ marks e (unsplit_means placing r marks log.0 log.1, refl)
climbed_means placing (climbed.Posted level key r) p a h marks e log = means_same _ _ _ _ _ _ marks e (refl, log)

pub stage_climbed : (placing : Placing) (stage : ClimbStage) (p : Reply) (a : Option Posted) (h : Option Hint) (marks : Trail) → climb_answer_in placing stage ≡ Some (answer.InsertPost p a h) → climb_log placing stage marks → MeansClimbed p a h marks
stage_climbed placing (climb.Over r) p a h marks e log = climbed_means placing r p a h marks (some_answer _ _ e) log
stage_climbed placing old p a h marks e log = absurd (let f = e in cc)

-- In every world whose processes have done what they tell.
pub climb_means : (w : World Run) (n : Name) (c : InsertPost) (p : Reply) (a : Option Posted) (h : Option Hint) → AllLogs w → (w.proc n).state ≡ proc.InsertPost c → climb_answer_in c.placing c.stage ≡ Some (answer.InsertPost p a h) → MeansClimbed p a h (marks_of n w.trail)
climb_means w n c p a h logs is e = stage_climbed c.placing c.stage p a h (marks_of n w.trail) e (subst (λ s. proc_log s (marks_of n w.trail)) is (logs n))
