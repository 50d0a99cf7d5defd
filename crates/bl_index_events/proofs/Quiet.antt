-- A process that has ended, and has said nothing of the map.
use Rattle.std.proofs.Common.{ℕ, ◌≡◌, ◌+◌, Option, Some, None, List, ap, ◌∙◌, subst, append-nil}
use Rattle.bl_model.specs.declared.operation.Reply.{Reply}
use Rattle.bl_page.specs.declared.page.Page.{Page}
use Rattle.bl_proc.specs.declared.kinds.Proc.{Proc}
use Rattle.bl_proc_invariant.specs.Knowing.{Run, know, end_of_proc}
use Rattle.bl_index_rule.specs.declared.known.PassState.{PassState}
use Rattle.bl_claims.specs.Seeing.{own}
use Rattle.bl_index_rule.specs.Observed.{Finishes}
use Rattle.bl_index_events.specs.Answered.{SaysNothing}
use Rattle.bl_index_events.specs.Runs.{IsDone}
use Rattle.bl_index_events.proofs.Calls.{since_end, since_said, end_seen}

-- the level and the key of a process
pub first_of : {a b c d : ℕ} → ◌≡◌ {A = Option (ℕ × ℕ)} (Some (a, b)) (Some (c, d)) → a ≡ c
first_of {a} {b} {c} {d} e = (let both : ◌≡◌ {A = ℕ × ℕ} (a, b) (c, d) = cc in ap (λ (z : ℕ × ℕ). z.0) both)

pub second_of : {a b c d : ℕ} → ◌≡◌ {A = Option (ℕ × ℕ)} (Some (a, b)) (Some (c, d)) → b ≡ d
second_of {a} {b} {c} {d} e = (let both : ◌≡◌ {A = ℕ × ℕ} (a, b) (c, d) = cc in ap (λ (z : ℕ × ℕ). z.1) both)

abbrev pub quiet_adds : (from : List (Option Page)) (pass : ℕ) (old e : PassState) (first last before : Proc) (d : IsDone pass old e first last) → old.first ≡ from → d.before ≡ before → end_of_proc before ≡ None → ((r : Run) → r.state ≡ before → (know r).said ≡ None) → SaysNothing from pass old.trail e.trail
quiet_adds from pass old e first last before d begins is end silent =
    let observed : Finishes None d.d e = subst (λ (z : Option Reply). Finishes z d.d e) (ap end_of_proc is ∙ end) d.observed in
    record {
      number = old.number + 1;
      holds = since_end pass None old d.d e d.since observed;
      seen = (end_seen pass None old d.d e from d.since observed begins).1;
      none = since_said pass None old d.d e None d.since observed (λ r h. silent r (h ∙ (d.state ∙ is))) ∙ append-nil (own pass old.trail);
    }
