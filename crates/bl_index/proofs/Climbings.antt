-- What a write with its posts tells its caller.
use Rattle.std.proofs.Common.{ℕ, ◌≡◌, ◌+◌, Option, Some, List, ◌∙◌}
use Rattle.bl_model.specs.Writes.{write_op}
use Rattle.bl_model.specs.declared.operation.Reply.{Reply}
use Rattle.bl_page.specs.declared.page.Page.{Page}
use Rattle.bl_claims.specs.Trails.{Trail, marks_of}
use Rattle.bl_claims.specs.Seeing.{name}
use Rattle.bl_answers.specs.declared.answers.Hint.{Hint}
use Rattle.bl_answers.specs.declared.answers.Posted.{Posted}
use Rattle.bl_proc.specs.declared.kinds.Proc.TheVariants as proc
use Rattle.bl_proc_invariant.proofs.ClimbingAnswers.{stage_climbed}
use Rattle.bl_index_rule.specs.declared.known.PassState.{PassState}
use Rattle.bl_index_events.specs.Held.{own_marks}
use Rattle.bl_index_events.specs.Answered.{InCall}
use Rattle.bl_index_events.proofs.Ends.{answered_by, in_call_by, climb_says}
use Rattle.bl_index_write.specs.Climbing.{HasClimbed}
use Rattle.bl_index.specs.Calls.{Climbs}
use Rattle.bl_proc_writes.specs.declared.insert_post.Placing.{Placing}
use Rattle.bl_proc_writes.specs.Placings.{write_of}

module _ (from : List (Option Page)) (pass : ℕ) (old e : PassState) (key : ℕ) (placing : Placing) (said : Reply) (last : Option Posted) (left : Option Hint) (h : HasClimbed pass old e key placing said last left) (begins : old.first ≡ from) where
  pub climb_answered : Climbs from pass (write_op key (write_of placing)) said last left old.trail e.trail
  climb_answered =
      let q = h.over in let d = h.done in
      record {
        answers = answered_by from pass old e h.first (proc.InsertPost q) (write_op key (write_of placing)) said d begins (climb_says d.before q (write_op key (write_of placing)) said last left (d.op ∙ h.op_is) d.at_end d.takes h.answer);
        means = stage_climbed q.placing q.stage said last left (marks_of (name pass (old.number + 1)) e.trail) h.answer d.log;
        latches = d.tidy;
      }

  pub climb_in_call : (IsSo : Trail → Type 0) → IsSo (own_marks e) → InCall pass (Some said) old.trail e.trail IsSo
  climb_in_call IsSo so =
      let q = h.over in let d = h.done in
      in_call_by from pass old e h.first (proc.InsertPost q) (write_op key (write_of placing)) said IsSo d begins (climb_says d.before q (write_op key (write_of placing)) said last left (d.op ∙ h.op_is) d.at_end d.takes h.answer) so
