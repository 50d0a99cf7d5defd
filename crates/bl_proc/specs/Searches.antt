-- A search, by its state.
use Rattle.std.specs.Prelude.{◌≡◌, ℕ, Option, None, Some}
use Rattle.bl_model.specs.declared.operation.Reply.TheVariants as reply
use Rattle.bl_page.specs.Nodes.{node_of}
use Rattle.bl_proc_steps.specs.declared.acts.Action.{Action}
use Rattle.bl_proc_steps.specs.declared.acts.Action.TheVariants as act
use Rattle.bl_proc_steps.specs.declared.acts.Seen.{Seen}
use Rattle.bl_proc_steps.specs.declared.acts.Seen.TheVariants as seen
use Rattle.bl_answers.specs.declared.answers.Answer.{Answer}
use Rattle.bl_answers.specs.declared.answers.Answer.TheVariants.{Op}
use Rattle.bl_proc_steps.specs.declared.descent.Descent.TheVariants.{AtAnchor}
use Rattle.bl_proc_steps.specs.declared.descent.Descended.TheVariants.{On, Here}
use Rattle.bl_proc.specs.declared.searching.Find.{Find}
use Rattle.bl_proc.specs.declared.searching.FindStage.{FindStage}
use Rattle.bl_proc.specs.declared.searching.FindStage.TheVariants.{New, Near, Probing, Descending, Ending, Over}
use Rattle.bl_proc_steps.specs.Descents.{descent_next, Descends}
use Rattle.bl_proc.specs.Parts.{way_by}

-- An ended process has no next action: it is not asked for one.
abbrev pub find_next_in : FindStage → Action
find_next_in New = act.Begin
find_next_in (Near x) = act.Begin
find_next_in (Probing x) = act.Probe x
find_next_in (Descending d) = descent_next d
find_next_in (Ending value) = act.End
find_next_in (Over value) = act.End

-- the value, or Absent where there is none
abbrev pub found_answer : Option ℕ → Answer
found_answer (Some value) = Op (reply.Found value) None
found_answer None = Op reply.Absent None

abbrev pub find_answer_in : FindStage → Option Answer
find_answer_in New = None
find_answer_in (Near x) = None
find_answer_in (Probing x) = None
find_answer_in (Descending d) = None
find_answer_in (Ending value) = None
find_answer_in (Over value) = Some (found_answer value)

-- It descends to the leaf that covers its key; what that leaf lists with the key is its answer. If it has a page in mind, it looks at that
-- first, as a part does.
abbrev pub FindGoes : ℕ → FindStage → Seen → FindStage → Type 0
FindGoes key New seen.Done (Descending d) = d ≡ AtAnchor
FindGoes key (Near x) seen.Done (Probing y) = y ≡ x
FindGoes key (Probing x) (seen.Probed free) (Descending d) = d ≡ way_by x free
FindGoes key (Descending d) (seen.Words c) (Descending e) = Descends key d c (On e)
FindGoes key (Descending d) (seen.Words c) (Ending value) = Descends key d c Here × (value ≡ (node_of c).look key)
FindGoes key (Ending value) seen.Done (Over last) = last ≡ value
FindGoes key old what new = ⊥

abbrev pub find_next : Find → Action
find_next f = find_next_in f.stage

abbrev pub find_needs : Find → Option (ℕ × ℕ)
find_needs f = None

abbrev pub find_answer : Find → Option Answer
find_answer f = find_answer_in f.stage

abbrev pub FindTakes : Find → Seen → Find → Type 0
FindTakes old what new = (new.key ≡ old.key) × FindGoes old.key old.stage what new.stage
