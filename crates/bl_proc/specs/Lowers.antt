-- A lowering, by its state.
use Rattle.std.specs.Prelude.{◌≡◌, ℕ, Option, None, Some}
use Rattle.bl_proc_steps.specs.declared.acts.Action.{Action}
use Rattle.bl_proc_steps.specs.declared.acts.Action.TheVariants as act
use Rattle.bl_proc_steps.specs.declared.acts.Seen.{Seen}
use Rattle.bl_proc_steps.specs.declared.acts.Seen.TheVariants as seen
use Rattle.bl_answers.specs.declared.answers.Answer.{Answer}
use Rattle.bl_answers.specs.declared.answers.Answer.TheVariants as answer
use Rattle.bl_proc_steps.specs.declared.lowering.Lowering.TheVariants as lowering
use Rattle.bl_proc_steps.specs.declared.lowering.Sank.TheVariants as sank
use Rattle.bl_proc_steps.specs.Lowerings.{lowering_next, lowering_needs, Lowers}
use Rattle.bl_proc.specs.declared.lowering.Lower.{Lower}
use Rattle.bl_proc.specs.declared.lowering.LowerStage.{LowerStage}
use Rattle.bl_proc.specs.declared.lowering.LowerStage.TheVariants.{New, Sinking, Ending, Over}

abbrev pub lower_next_in : LowerStage → Action
lower_next_in New = act.Begin
lower_next_in (Sinking l) = lowering_next l
lower_next_in (Ending r) = act.End
lower_next_in (Over r) = act.End

abbrev pub lower_needs_in : LowerStage → Option (ℕ × ℕ)
lower_needs_in New = None
lower_needs_in (Sinking l) = lowering_needs l
lower_needs_in (Ending r) = None
lower_needs_in (Over r) = None

abbrev pub lower_answer_in : LowerStage → Option Answer
lower_answer_in New = None
lower_answer_in (Sinking l) = None
lower_answer_in (Ending r) = None
lower_answer_in (Over r) = Some (answer.Lower r)

-- It looks at the anchor first, and ends when the lowering is over.
abbrev pub LowerGoes : LowerStage → Seen → LowerStage → Type 0
LowerGoes New seen.Done (Sinking l) = l ≡ lowering.Looking
LowerGoes (Sinking l) what (Sinking m) = Lowers l what (sank.On m)
LowerGoes (Sinking l) what (Ending r) = Lowers l what (sank.Over r)
LowerGoes (Ending r) seen.Done (Over last) = last ≡ r
LowerGoes old what new = ⊥

abbrev pub lower_next : Lower → Action
lower_next p = lower_next_in p.stage

abbrev pub lower_needs : Lower → Option (ℕ × ℕ)
lower_needs p = lower_needs_in p.stage

abbrev pub lower_answer : Lower → Option Answer
lower_answer p = lower_answer_in p.stage

abbrev pub LowerTakes : Lower → Seen → Lower → Type 0
LowerTakes old what new = LowerGoes old.stage what new.stage
