-- A search goes on, and in one way.
use Rattle.std.proofs.Common.{ℕ, ◌≡◌, None, ap, sym, ◌∙◌, refl, Some}
use Rattle.bl_page.specs.declared.page.Page.{Page}
use Rattle.bl_page.specs.Nodes.{node_of}
use Rattle.bl_proc_steps.specs.declared.acts.Seen.{Seen}
use Rattle.bl_proc_steps.specs.declared.acts.Seen.TheVariants as seen
use Rattle.bl_proc_steps.specs.declared.descent.Descent.{Descent}
use Rattle.bl_proc_steps.specs.declared.descent.Descent.TheVariants.{AtAnchor}
use Rattle.bl_proc_steps.specs.declared.descent.Descended.{Descended}
use Rattle.bl_proc_steps.specs.declared.descent.Descended.TheVariants.{On, Here}
use Rattle.bl_proc_steps.specs.Given.{Gives}
use Rattle.bl_proc_steps.specs.Descents.{Descends}
use Rattle.bl_proc.specs.declared.kinds.Proc.{Proc}
use Rattle.bl_proc.specs.declared.kinds.Proc.TheVariants.{Find}
use Rattle.bl_proc.specs.declared.searching.Find.{Find as FindState}
use Rattle.bl_proc.specs.declared.searching.FindStage.{FindStage}
use Rattle.bl_proc.specs.declared.searching.FindStage.TheVariants.{New, Near, Probing, Descending, Ending, Over}
use Rattle.bl_proc.specs.Searches.{find_next_in, find_answer_in, FindGoes}
use Rattle.bl_proc.specs.Parts.{way_by}
use Rattle.bl_proc.specs.Processes.{Takes}
use Rattle.bl_proc_deterministic.specs.Courses.{GoesOn}
use Rattle.bl_proc_deterministic.proofs.Descents.{descent_some, on_one, on_here}
use Rattle.bl_proc_deterministic.proofs.KindCases.{FindCase, find_case}

find_same : {key : ℕ} {old : FindStage} {what : Seen} {a b : FindStage} → FindCase key old what a → FindCase key old what b → b ≡ a
find_same (FindCase.Began d s) (FindCase.Began e t) = ap Descending (t ∙ sym s)
find_same (FindCase.BeganNear x y s) (FindCase.BeganNear _ z t) = ap Probing (t ∙ sym s)
find_same (FindCase.Looked x free d s) (FindCase.Looked _ _ e t) = ap Descending (t ∙ sym s)
find_same {key = key} (FindCase.Went d c e s) (FindCase.Went _ _ f t) = ap Descending (on_one key d c e f s t)
find_same {key = key} (FindCase.Went d c e s) (FindCase.Found _ _ v t) = absurd (on_here key d c e s t.0)
find_same {key = key} (FindCase.Found d c v s) (FindCase.Went _ _ e t) = absurd (on_here key d c e t s.0)
find_same (FindCase.Found d c v s) (FindCase.Found _ _ u t) = ap Ending (t.1 ∙ sym s.1)
find_same (FindCase.Ended v last s) (FindCase.Ended _ other t) = ap Over (t ∙ sym s)

descends : (key : ℕ) (d : Descent) (c : Page) (a : Descended) → Descends key d c a → (new : FindStage) × FindGoes key (Descending d) (seen.Words c) new
descends key d c (On e) t = (Descending e, t)
descends key d c Here t = (Ending ((node_of c).look key), (t, refl))

stage_goes : (key : ℕ) (old : FindStage) (what : Seen) → find_answer_in old ≡ None → Gives (find_next_in old) None what → (new : FindStage) × FindGoes key old what new
stage_goes key New seen.Done a g = (Descending AtAnchor, refl)
stage_goes key (Near x) seen.Done a g = (Probing x, refl)
stage_goes key (Probing x) (seen.Probed free) a g = (Descending (way_by x free), refl)
stage_goes key (Descending d) (seen.Words c) a g = (let to = descent_some key d c in descends key d c to.0 to.1)
stage_goes key (Ending v) seen.Done a g = (Over v, refl)
stage_goes key (Over v) what a g = (let z : Some _ ≡ None = a in cc)
stage_goes key old what a g = absurd g

find_only : (old : FindState) (what : Seen) (new : FindStage) → FindGoes old.key old.stage what new → (other : Proc) → Takes (Find old) what other → other ≡ Find (record { key = old.key; stage = new })
find_only old what new s (Find f) t =
    let e = find_same (find_case old.key old.stage what new s) (find_case old.key old.stage what f.stage t.1) in
    λ i. Find (record { key = t.0 i; stage = e i })
find_only old what new s other t = absurd t

pub find_goes : (old : FindState) (what : Seen) → find_answer_in old.stage ≡ None → Gives (find_next_in old.stage) None what → GoesOn (Find old) what
find_goes old what running given =
    let to = stage_goes old.key old.stage what running given in
    record { new = Find (record { key = old.key; stage = to.0 }); takes = (refl, to.1); only = find_only old what to.0 to.1 }
