-- What a compression tells its caller.
use Rattle.std.proofs.Common.{ℕ, ◌≡◌, ◌+◌, Option, Some, None, List, refl, ap, ◌∙◌, subst}
use Rattle.bl_page.specs.declared.page.Page.{Page}
use Rattle.bl_claims.specs.Trails.{Trail, marks_of}
use Rattle.bl_proc_steps.specs.declared.acts.Action.TheVariants as act
use Rattle.bl_answers.specs.declared.answers.Hint.{Hint}
use Rattle.bl_answers.specs.declared.answers.Squeezed.{Squeezed}
use Rattle.bl_answers.specs.declared.answers.Answer.TheVariants as answer
use Rattle.bl_proc_compress.specs.declared.compress.Compress.{Compress}
use Rattle.bl_proc_compress.specs.declared.compress.CompressStage.{CompressStage}
use Rattle.bl_proc_compress.specs.declared.compress.CompressStage.TheVariants as compress
use Rattle.bl_proc_compress.specs.Compresses.{compress_next_in, compress_answer}
use Rattle.bl_proc.specs.declared.kinds.Proc.{Proc}
use Rattle.bl_proc.specs.declared.kinds.Proc.TheVariants as proc
use Rattle.bl_claims.specs.Squeezed.{MeansSqueezed}
use Rattle.bl_proc_invariant.specs.Knowing.{know_of, know_compress}
use Rattle.bl_proc_invariant.proofs.CompressAnswers.{stage_means}
use Rattle.bl_claims.specs.Families.{LatchesBeside}
use Rattle.bl_proc_deterministic.specs.Frames.{work_of}
use Rattle.bl_proc_deterministic.proofs.CompressionsEnding.{not_end_compression, is_compressing}
use Rattle.bl_index_rule.specs.declared.known.PassState.{PassState}
use Rattle.bl_claims.specs.Seeing.{name}
use Rattle.bl_index.specs.Calls.{Compresses}
use Rattle.bl_index_events.specs.Runs.{IsDone}
use Rattle.bl_index_events.proofs.Quiet.{quiet_adds}
use Rattle.bl_index_events.proofs.Ends.{not_end_way}

silent_at_end : (level key : ℕ) (got : ℕ → Page) (a : CompressStage) → compress_next_in a ≡ act.End → (know_compress level key got a).said ≡ None
silent_at_end level key got compress.New e = cc
silent_at_end level key got (compress.Coming a) e = absurd (not_end_way a e)
silent_at_end level key got (compress.Compressing c) e = absurd (not_end_compression c e)
silent_at_end level key got (compress.Staying x) e = cc
silent_at_end level key got (compress.Ending r) e = refl
silent_at_end level key got (compress.Over r) e = refl

pub compress_answered : (from : List (Option Page)) (pass : ℕ) (old e : PassState) (first : Proc) (q : Compress) (level key : ℕ) (what : Squeezed) (next : Option Hint) → IsDone pass old e first (proc.Compress q) → old.first ≡ from → work_of first ≡ Some (level, key) → compress_answer q ≡ Some (answer.Compress what next) → Compresses from pass level key what next old.trail e.trail
compress_answered from pass old e first q level key what next d begins is a =
    let p = is_compressing d.before q level key (d.work ∙ is) d.at_end d.takes in
    let marks : Trail = marks_of (name pass (old.number + 1)) e.trail in
    record {
      adds = quiet_adds from pass old e first (proc.Compress q) (proc.Compress p.old) d begins p.before_is refl (λ r h. ap (λ (z : Proc). (know_of r.got r.child r.time z).said) h ∙ silent_at_end p.old.level p.old.key r.got p.old.stage p.at_end);
      latches = subst (λ (z : ℕ × ℕ). LatchesBeside z.0 z.1 marks) (λ i. (p.level_is i, p.key_is i)) d.tidy;
      means = subst (λ (z : ℕ × ℕ). MeansSqueezed z.0 z.1 what next marks) (λ i. (p.level_is i, p.key_is i)) (stage_means q.level q.key q.stage what next marks a d.log);
    }
