-- A part goes on, and in one way.
use Rattle.std.proofs.Common.{◌≡◌, None, ap, sym, ◌∙◌, refl, Some}
use Rattle.bl_page.specs.declared.page.Page.{Page}
use Rattle.bl_proc_steps.specs.declared.acts.Seen.{Seen}
use Rattle.bl_proc_steps.specs.declared.acts.Seen.TheVariants as seen
use Rattle.bl_proc_steps.specs.declared.descent.Descent.{Descent}
use Rattle.bl_proc_steps.specs.declared.descent.Descent.TheVariants.{AtAnchor}
use Rattle.bl_proc_steps.specs.declared.descent.Descended.{Descended}
use Rattle.bl_proc_steps.specs.declared.descent.Descended.TheVariants.{On, Here}
use Rattle.bl_proc_steps.specs.Given.{Gives}
use Rattle.bl_proc_steps.specs.Descents.{Descends}
use Rattle.bl_proc_steps.proofs.Descents.{here_leads}
use Rattle.bl_proc.specs.declared.kinds.Proc.{Proc}
use Rattle.bl_proc.specs.declared.kinds.Proc.TheVariants.{Part}
use Rattle.bl_proc.specs.declared.parts.Part.{Part as PartState}
use Rattle.bl_proc.specs.declared.parts.PartStage.{PartStage}
use Rattle.bl_proc.specs.declared.parts.PartStart.{PartStart}
use Rattle.bl_proc.specs.declared.parts.PartStage.TheVariants.{New, Near, Probing, Descending, Ending, Over}
use Rattle.bl_proc.specs.Parts.{part_next_in, part_answer_in, way_by, PartGoes}
use Rattle.bl_proc.specs.Processes.{Takes}
use Rattle.bl_proc_deterministic.specs.Courses.{GoesOn}
use Rattle.bl_proc_deterministic.proofs.Descents.{descent_some, on_one, on_here}
use Rattle.bl_proc_deterministic.proofs.Listings.{by_some, by_one}
use Rattle.bl_proc_deterministic.proofs.KindCases.{PartCase, part_case}

part_same : {from : PartStart} {old : PartStage} {what : Seen} {a b : PartStage} → PartCase from old what a → PartCase from old what b → b ≡ a
part_same (PartCase.Began d s) (PartCase.Began e t) = ap Descending (t ∙ sym s)
part_same (PartCase.BeganNear x y s) (PartCase.BeganNear _ z t) = ap Probing (t ∙ sym s)
part_same (PartCase.Looked x free d s) (PartCase.Looked _ _ e t) = ap Descending (t ∙ sym s)
part_same {from = from} (PartCase.Went d c e s) (PartCase.Went _ _ f t) = ap Descending (on_one from.key d c e f s t)
part_same {from = from} (PartCase.Went d c e s) (PartCase.Listed _ _ r t) = absurd (on_here from.key d c e s t.0)
part_same {from = from} (PartCase.Listed d c r s) (PartCase.Went _ _ e t) = absurd (on_here from.key d c e t s.0)
part_same {from = from} (PartCase.Listed d c r s) (PartCase.Listed _ _ q t) = ap Ending (by_one from c q r t.1 s.1)
part_same (PartCase.Ended r last s) (PartCase.Ended _ other t) = ap Over (t ∙ sym s)

descends : (from : PartStart) (d : Descent) (c : Page) (a : Descended) → Descends from.key d c a → (new : PartStage) × PartGoes from (Descending d) (seen.Words c) new
descends from d c (On e) t = (Descending e, t)
descends from d c Here t = (let part = by_some from c (here_leads from.key d c t) in (Ending part.0, (t, part.1)))

stage_goes : (from : PartStart) (old : PartStage) (what : Seen) → part_answer_in old ≡ None → Gives (part_next_in old) None what → (new : PartStage) × PartGoes from old what new
stage_goes from New seen.Done a g = (Descending AtAnchor, refl)
stage_goes from (Near x) seen.Done a g = (Probing x, refl)
stage_goes from (Probing x) (seen.Probed free) a g = (Descending (way_by x free), refl)
stage_goes from (Descending d) (seen.Words c) a g = (let to = descent_some from.key d c in descends from d c to.0 to.1)
stage_goes from (Ending r) seen.Done a g = (Over r, refl)
stage_goes from (Over r) what a g = (let z : Some _ ≡ None = a in cc)
stage_goes from old what a g = absurd g

part_only : (old : PartState) (what : Seen) (new : PartStage) → PartGoes old.from old.stage what new → (other : Proc) → Takes (Part old) what other → other ≡ Part (record { from = old.from; stage = new })
part_only old what new s (Part f) t =
    let e = part_same (part_case old.from old.stage what new s) (part_case old.from old.stage what f.stage t.1) in
    λ i. Part (record { from = t.0 i; stage = e i })
part_only old what new s other t = absurd t

pub part_goes : (old : PartState) (what : Seen) → part_answer_in old.stage ≡ None → Gives (part_next_in old.stage) None what → GoesOn (Part old) what
part_goes old what running given =
    let to = stage_goes old.from old.stage what running given in
    record { new = Part (record { from = old.from; stage = to.0 }); takes = (refl, to.1); only = part_only old what to.0 to.1 }
