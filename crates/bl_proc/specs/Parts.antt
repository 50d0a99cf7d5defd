-- A part, by its state.
use Rattle.std.specs.Prelude.{◌≡◌, ◌≢◌, ℕ, suc, ◌+◌, ◌≤◌, reverse, Bool, true, Option, None, Some}
use Rattle.bl_model.specs.declared.operation.Op.{Op as MapOp}
use Rattle.bl_model.specs.declared.operation.Op.TheVariants as op
use Rattle.bl_model.specs.declared.operation.Next.{Next}
use Rattle.bl_model.specs.declared.operation.Next.TheVariants.{More, End}
use Rattle.bl_model.specs.declared.operation.Reply.TheVariants as reply
use Rattle.bl_model.specs.Map.{ListsPairs}
use Rattle.bl_page.specs.declared.page.Page.{Page}
use Rattle.bl_page.specs.Nodes.{unbounded, node_of}
use Rattle.bl_proc_steps.specs.declared.acts.Action.{Action}
use Rattle.bl_proc_steps.specs.declared.acts.Action.TheVariants as act
use Rattle.bl_proc_steps.specs.declared.acts.Seen.{Seen}
use Rattle.bl_proc_steps.specs.declared.acts.Seen.TheVariants as seen
use Rattle.bl_answers.specs.declared.answers.Answer.{Answer}
use Rattle.bl_answers.specs.declared.answers.Answer.TheVariants.{Op}
use Rattle.bl_proc_steps.specs.declared.descent.Descent.{Descent}
use Rattle.bl_proc_steps.specs.declared.descent.Descent.TheVariants.{AtAnchor, At}
use Rattle.bl_proc_steps.specs.declared.descent.Descended.TheVariants.{On, Here}
use Rattle.bl_proc.specs.declared.parts.Part.{Part}
use Rattle.bl_proc.specs.declared.parts.Direction.{Direction}
use Rattle.bl_proc.specs.declared.parts.Direction.TheVariants.{Up, Down}
use Rattle.bl_proc.specs.declared.parts.PartRows.{PartRows}
use Rattle.bl_proc.specs.declared.parts.PartStart.{PartStart}
use Rattle.bl_proc.specs.declared.parts.PartStage.{PartStage}
use Rattle.bl_proc.specs.declared.parts.PartStage.TheVariants.{New, Near, Probing, Descending, Ending, Over}
use Rattle.bl_proc_steps.specs.Descents.{descent_next, Descends}

-- Starts of a part, up and down from a key.

abbrev pub up : ℕ → PartStart
up key = record { key = key; direction = Up }

abbrev pub down : ℕ → PartStart
down key = record { key = key; direction = Down }

-- the operation on the map
abbrev pub op_toward : Direction → ℕ → MapOp
op_toward Up key = op.Part key
op_toward Down key = op.PartDown key

abbrev pub part_op : PartStart → MapOp
part_op from = op_toward from.direction from.key

-- The next part begins where the page ends. Past a page without a bound there is none.
abbrev pub GoesOnAt : ℕ → Next → Type 0
GoesOnAt end (More key) = (end ≢ unbounded) × (key ≡ end)
GoesOnAt end End = end ≡ unbounded

-- of a page: what it lists from the key on, in rising order, and its end
pub record IsPartOf (c : Page) (from : ℕ) (part : PartRows) : Type 0 where
  pub rows : ListsPairs (node_of c).look (λ key. from ≤ key) part.rows.items
  pub next : GoesOnAt (node_of c).shape.end part.next

-- Downwards the next part begins with the key before the page's first. Below the page of key 0 there is none.
abbrev pub GoesOnBelow : ℕ → Next → Type 0
GoesOnBelow low (More key) = low ≡ key + 1
GoesOnBelow low End = low ≡ 0

-- of a page: what it lists from the key on downwards, in falling order, and where it begins
pub record IsPartDownOf (c : Page) (from : ℕ) (part : PartRows) : Type 0 where
  pub rows : ListsPairs (node_of c).look (λ key. key ≤ from) (reverse part.rows.items)
  pub next : GoesOnBelow (node_of c).shape.low part.next

abbrev pub IsPartToward : Direction → Page → ℕ → PartRows → Type 0
IsPartToward Up c from part = IsPartOf c from part
IsPartToward Down c from part = IsPartDownOf c from part

-- of a page: what a part lists there that begins so
abbrev pub IsPartBy : PartStart → Page → PartRows → Type 0
IsPartBy from c part = IsPartToward from.direction c from.key part

-- An ended process has no next action: it is not asked for one.
abbrev pub part_next_in : PartStage → Action
part_next_in New = act.Begin
part_next_in (Near x) = act.Begin
part_next_in (Probing x) = act.Probe x
part_next_in (Descending d) = descent_next d
part_next_in (Ending part) = act.End
part_next_in (Over part) = act.End

abbrev pub part_answer_in : PartStage → Option Answer
part_answer_in New = None
part_answer_in (Near x) = None
part_answer_in (Probing x) = None
part_answer_in (Descending d) = None
part_answer_in (Ending part) = None
part_answer_in (Over part) = Some (Op (reply.Rows part.rows part.next) None)

-- A part that has looked at a page begins its way there, if the page is open and is not the anchor.
abbrev pub way_by : ℕ → Bool → Descent
way_by (suc x) true = At (suc x)
way_by x free = AtAnchor

-- It descends to the leaf that covers its first key, which gives the part. If it has a page in mind, it looks at that first.
abbrev pub PartGoes : PartStart → PartStage → Seen → PartStage → Type 0
PartGoes from New seen.Done (Descending d) = d ≡ AtAnchor
PartGoes from (Near x) seen.Done (Probing y) = y ≡ x
PartGoes from (Probing x) (seen.Probed free) (Descending d) = d ≡ way_by x free
PartGoes from (Descending d) (seen.Words c) (Descending e) = Descends from.key d c (On e)
PartGoes from (Descending d) (seen.Words c) (Ending part) = Descends from.key d c Here × IsPartBy from c part
PartGoes from (Ending part) seen.Done (Over last) = last ≡ part
PartGoes from old what new = ⊥

abbrev pub part_next : Part → Action
part_next p = part_next_in p.stage

abbrev pub part_needs : Part → Option (ℕ × ℕ)
part_needs p = None

abbrev pub part_answer : Part → Option Answer
part_answer p = part_answer_in p.stage

abbrev pub PartTakes : Part → Seen → Part → Type 0
PartTakes old what new = (new.from ≡ old.from) × PartGoes old.from old.stage what new.stage
