-- States in which a process goes on without room. A change or a growth comes to one only by being refused.
use Rattle.std.proofs.Common.{ℕ, ◌≡◌, ◌⊎◌, refl, subst, inl, inr}
use Rattle.bl_model.specs.declared.deciding.Effect.{Effect}
use Rattle.bl_model.specs.declared.deciding.Effect.TheVariants.{Keep, Enter, Remove, Replace}
use Rattle.bl_page.specs.declared.page.Page.{Page}
use Rattle.bl_proc_steps.specs.declared.acts.Seen.{Seen}
use Rattle.bl_proc_steps.specs.declared.acts.Seen.TheVariants as seen
use Rattle.bl_proc_steps.specs.declared.edit.Outcome.{Outcome}
use Rattle.bl_proc_steps.specs.declared.edit.Edit.{Edit}
use Rattle.bl_proc_steps.specs.declared.edit.Edit.TheVariants as edit
use Rattle.bl_proc_steps.specs.declared.edit.Edited.TheVariants as changed
use Rattle.bl_proc_steps.specs.declared.growth.Growth.{Growth}
use Rattle.bl_proc_steps.specs.declared.growth.Grew.TheVariants as grew
use Rattle.bl_proc_steps.specs.Edits.{EntersPair, DropsPair, GivesValue}
use Rattle.bl_proc_writes.specs.Writes.{Performs}
use Rattle.bl_proc_deterministic.specs.Refusals.{OutcomeRefused, EditRefused, GrowthRefused}
use Rattle.bl_proc_deterministic.proofs.WayCases.{EditCase, GrowthCase}

-- A change, and a growth

pub changes_refused : {c d : Edit} {what : Seen} → EditCase c what (changed.On d) → EditRefused d → EditRefused c ⊎ (what ≡ seen.Refused)
changes_refused (EditCase.Put x page d t) r = inl (subst EditRefused t r)
changes_refused (EditCase.PutRefused x page d t) r = inr refl
changes_refused (EditCase.Took full y p t) r = inl r
changes_refused (EditCase.TakeRefused full d t) r = inr refl
changes_refused (EditCase.PutNew p d t) r = inl (subst EditRefused t r)
changes_refused (EditCase.PutOld p d t) r = inl (subst EditRefused t r)
changes_refused (EditCase.OpenedNew x y separator d t) r = inl (subst EditRefused t r)

pub changes_over : {c : Edit} {what : Seen} {o : Outcome} → EditCase c what (changed.Over o) → OutcomeRefused o → EditRefused c
changes_over (EditCase.Opened x o last t) r = subst OutcomeRefused t r

pub grows_refused : {level : ℕ} {g h : Growth} {what : Seen} → GrowthCase level g what (grew.On h) → GrowthRefused h → GrowthRefused g ⊎ (what ≡ seen.Refused)
grows_refused (GrowthCase.LatchedAnchor h t) r = inl (subst GrowthRefused t r)
grows_refused (GrowthCase.Missed h t) r = inl (subst GrowthRefused t r)
grows_refused (GrowthCase.TopRefused rise h t) r = inr refl
grows_refused (GrowthCase.PutTop v h t) r = inl (subst GrowthRefused t r)
grows_refused (GrowthCase.PutAnchor v h t) r = inl (subst GrowthRefused t r)
grows_refused (GrowthCase.OpenedTop x h t) r = inl (subst GrowthRefused t r)
grows_refused other r = inl r

pub grows_over : {level : ℕ} {g : Growth} {what : Seen} → GrowthCase level g what grew.Refused → GrowthRefused g
grows_over GrowthCase.OpenedRefused = tt

pub enters_not : (x : ℕ) (c : Page) (key word : ℕ) (d : Edit) → EntersPair x c key word d → EditRefused d → ⊥
enters_not x c key word (edit.Putting y p) e r = r
enters_not x c key word (edit.Taking t) e r = r
enters_not x c key word (edit.PuttingNew t) e r = r
enters_not x c key word (edit.PuttingOld t) e r = r
enters_not x c key word (edit.OpeningNew y n s) e r = r
enters_not x c key word (edit.Opening y o) e r = e

pub drops_not : (x : ℕ) (c : Page) (key : ℕ) (d : Edit) → DropsPair x c key d → EditRefused d → ⊥
drops_not x c key (edit.Putting y p) e r = r
drops_not x c key (edit.Taking t) e r = r
drops_not x c key (edit.PuttingNew t) e r = r
drops_not x c key (edit.PuttingOld t) e r = r
drops_not x c key (edit.OpeningNew y n s) e r = r
drops_not x c key (edit.Opening y o) e r = e

pub gives_not : (x : ℕ) (c : Page) (key value : ℕ) (d : Edit) → GivesValue x c key value d → EditRefused d → ⊥
gives_not x c key value (edit.Putting y p) e r = r
gives_not x c key value (edit.Opening y o) e r = e
gives_not x c key value old e r = r

pub performs_not : (effect : Effect) (x : ℕ) (c : Page) (key : ℕ) (d : Edit) → Performs effect x c key d → EditRefused d → ⊥
performs_not Keep x c key d e r = e
performs_not (Enter value) x c key d e r = enters_not x c key value d e r
performs_not Remove x c key d e r = drops_not x c key d e r
performs_not (Replace value) x c key d e r = gives_not x c key value d e r
