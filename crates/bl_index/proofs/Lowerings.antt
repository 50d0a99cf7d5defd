-- What a lowering tells its caller.
use Rattle.std.proofs.Common.{ℕ, ◌≡◌, ◌≢◌, ◌+◌, Option, Some, None, List, refl, sym, ap, ◌∙◌, subst}
use Rattle.bl_page.specs.declared.page.Page.{Page}
use Rattle.bl_claims.specs.Seeing.{name}
use Rattle.bl_claims.specs.Trails.{Trail, marks_of}
use Rattle.bl_proc_steps.specs.declared.acts.Action.TheVariants as act
use Rattle.bl_proc_steps.specs.declared.acts.Seen.TheVariants as seen
use Rattle.bl_answers.specs.declared.answers.Answer.{Answer}
use Rattle.bl_answers.specs.declared.answers.Answer.TheVariants as answer
use Rattle.bl_answers.specs.declared.answers.Lowered.{Lowered}
use Rattle.bl_proc_steps.specs.declared.lowering.Lowering.{Lowering}
use Rattle.bl_proc_steps.specs.declared.lowering.Lowering.TheVariants as lowering
use Rattle.bl_proc_steps.specs.Lowerings.{lowering_next}
use Rattle.bl_proc.specs.declared.lowering.Lower.{Lower}
use Rattle.bl_proc.specs.declared.lowering.LowerStage.{LowerStage}
use Rattle.bl_proc.specs.declared.lowering.LowerStage.TheVariants as lower
use Rattle.bl_proc.specs.declared.kinds.Proc.{Proc}
use Rattle.bl_proc.specs.declared.kinds.Proc.TheVariants as proc
use Rattle.bl_proc.specs.Lowers.{lower_next_in, lower_answer_in, lower_answer, LowerGoes}
use Rattle.bl_proc.specs.Processes.{next_of, Takes}
use Rattle.bl_proc_invariant.specs.Knowing.{know_of, know_lower}
use Rattle.bl_proc_invariant.proofs.LoweringLogs.{stage_means}
use Rattle.bl_index_rule.specs.declared.known.PassState.{PassState}
use Rattle.bl_index.specs.Calls.{LowersTree}
use Rattle.bl_index_events.specs.Runs.{IsDone}
use Rattle.bl_index.specs.Within.{IsLowerAnswer}
use Rattle.bl_index_events.proofs.Quiet.{quiet_adds}

not_end_lowering : (l : Lowering) → lowering_next l ≢ act.End
not_end_lowering lowering.Looking e = cc
not_end_lowering lowering.LatchingAnchor e = cc
not_end_lowering lowering.LatchedAnchor e = cc
not_end_lowering (lowering.LatchingTop t) e = cc
not_end_lowering (lowering.LatchedTop t) e = cc
not_end_lowering (lowering.PuttingAnchor s) e = cc
not_end_lowering (lowering.PuttingDead s) e = cc
not_end_lowering (lowering.Retiring x) e = cc
not_end_lowering (lowering.OpeningTop x what) e = cc
not_end_lowering (lowering.OpeningAnchor what) e = cc

silent_at_end : (got : ℕ → Page) (a : LowerStage) → lower_next_in a ≡ act.End → (know_lower got a).said ≡ None
silent_at_end got lower.New e = cc
silent_at_end got (lower.Sinking l) e = absurd (not_end_lowering l e)
silent_at_end got (lower.Ending r) e = refl
silent_at_end got (lower.Over r) e = refl

answers_at_end : (a b : LowerStage) → lower_next_in a ≡ act.End → LowerGoes a seen.Done b → IsLowerAnswer (lower_answer_in b)
answers_at_end lower.New b e t = cc
answers_at_end (lower.Sinking l) b e t = absurd (not_end_lowering l e)
answers_at_end (lower.Ending r) (lower.Over last) e t = tt
answers_at_end old new e t = absurd t

-- a lowering that ends at its next action, and is then q
record IsSinking (before : Proc) (q : Lower) : Type 0 where
  pub old : Lower
  pub before_is : before ≡ proc.Lower old
  pub at_end : lower_next_in old.stage ≡ act.End
  pub goes : LowerGoes old.stage seen.Done q.stage

sinking : (before : Proc) (q : Lower) → next_of before ≡ act.End → Takes before seen.Done (proc.Lower q) → IsSinking before q
sinking (proc.Lower p) q e t = record { old = p; before_is = refl; at_end = e; goes = t }
sinking other q e t = absurd t

pub lower_has_answer : (pass : ℕ) (old e : PassState) (first : Proc) (q : Lower) → IsDone pass old e first (proc.Lower q) → (what : Option Answer) → what ≡ lower_answer q → IsLowerAnswer what
lower_has_answer pass old e first q d what a =
    let p = sinking d.before q d.at_end d.takes in
    subst IsLowerAnswer (sym a) (answers_at_end p.old.stage q.stage p.at_end p.goes)

pub lower_answered : (from : List (Option Page)) (pass : ℕ) (old e : PassState) (first : Proc) (q : Lower) (what : Lowered) → IsDone pass old e first (proc.Lower q) → old.first ≡ from → lower_answer q ≡ Some (answer.Lower what) → LowersTree from pass what old.trail e.trail
lower_answered from pass old e first q what d begins a =
    let p = sinking d.before q d.at_end d.takes in
    let marks : Trail = marks_of (name pass (old.number + 1)) e.trail in
    record {
      adds = quiet_adds from pass old e first (proc.Lower q) (proc.Lower p.old) d begins p.before_is refl (λ r h. ap (λ (z : Proc). (know_of r.got r.child r.time z).said) h ∙ silent_at_end r.got p.old.stage p.at_end);
      means = stage_means q.stage what marks a d.log;
      latches = d.tidy;
    }
