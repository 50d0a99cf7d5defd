-- The release of a page, by its state.
use Rattle.std.specs.Prelude.{◌≡◌, ◌≢◌, ℕ, ◌<◌, ◌≤◌, true, false, Option, None, Some}
use Rattle.bl_proc_steps.specs.declared.acts.Action.{Action}
use Rattle.bl_proc_steps.specs.declared.acts.Action.TheVariants as act
use Rattle.bl_proc_steps.specs.declared.acts.Seen.{Seen}
use Rattle.bl_proc_steps.specs.declared.acts.Seen.TheVariants as seen
use Rattle.bl_answers.specs.declared.answers.Answer.{Answer}
use Rattle.bl_answers.specs.declared.answers.Answer.TheVariants as answer
use Rattle.bl_answers.specs.declared.answers.Reclaimed.TheVariants.{Released, Kept}
use Rattle.bl_proc.specs.declared.reclaiming.Round.{Round}
use Rattle.bl_proc.specs.declared.reclaiming.Reclaim.{Reclaim}
use Rattle.bl_proc.specs.declared.reclaiming.ReclaimStage.{ReclaimStage}
use Rattle.bl_proc.specs.declared.reclaiming.ReclaimStage.TheVariants.{Seeing, Looking, Releasing, Over}

-- It has neither a begin nor an end. A process that is done has no next action: it is not asked for one.
abbrev pub reclaim_next_in : ℕ → ReclaimStage → Action
reclaim_next_in page Seeing = act.See page
reclaim_next_in page (Looking r) = act.Look r.next
reclaim_next_in page Releasing = act.Release page
reclaim_next_in page (Over what) = act.Release page

abbrev pub reclaim_answer_in : ReclaimStage → Option Answer
reclaim_answer_in Seeing = None
reclaim_answer_in (Looking r) = None
reclaim_answer_in Releasing = None
reclaim_answer_in (Over what) = Some (answer.Reclaim what)

-- of the processes that were started, the first behind that one, but for the process itself
pub record IsFirstBehind (last started own : ℕ) (r : Round) : Type 0 where
  pub same_started : r.started ≡ started
  pub same_own : r.own ≡ own
  pub behind : last < r.next
  pub within : r.next ≤ started
  pub other : r.next ≢ own
  pub first : (q : ℕ) → last < q → q < r.next → q ≡ own

-- The next process is looked at; when there is none, the page is released.
abbrev pub GoesPast : ℕ → ℕ → ℕ → ReclaimStage → Type 0
GoesPast last started own (Looking r) = IsFirstBehind last started own r
GoesPast last started own Releasing = (q : ℕ) → last < q → q ≤ started → q ≡ own
GoesPast last started own stage = ⊥

-- Where the page is retired, it looks at each other process that was started by then, in their order. The first that
-- blocks, and a release that is missed, keep the page.
abbrev pub ReclaimGoes : ReclaimStage → Seen → ReclaimStage → Type 0
ReclaimGoes Seeing (seen.Owner true started own) new = GoesPast 0 started own new
ReclaimGoes Seeing (seen.Owner false started own) (Over what) = what ≡ Kept
ReclaimGoes (Looking r) (seen.Blocks false) new = GoesPast r.next r.started r.own new
ReclaimGoes (Looking r) (seen.Blocks true) (Over what) = what ≡ Kept
ReclaimGoes Releasing seen.Done (Over what) = what ≡ Released
ReclaimGoes Releasing seen.Missed (Over what) = what ≡ Kept
ReclaimGoes old what new = ⊥

abbrev pub reclaim_next : Reclaim → Action
reclaim_next p = reclaim_next_in p.page p.stage

abbrev pub reclaim_needs : Reclaim → Option (ℕ × ℕ)
reclaim_needs p = None

abbrev pub reclaim_answer : Reclaim → Option Answer
reclaim_answer p = reclaim_answer_in p.stage

abbrev pub ReclaimTakes : Reclaim → Seen → Reclaim → Type 0
ReclaimTakes old what new = (new.page ≡ old.page) × ReclaimGoes old.stage what new.stage
