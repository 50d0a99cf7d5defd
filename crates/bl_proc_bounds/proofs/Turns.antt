-- A turn of a process, as it keeps a world good, each search within its bound, and what is held as a page is latched.
use Rattle.std.proofs.Common.{◌≡◌, refl, sym, ap, ◌∙◌, subst}
use Rattle.bl_model.specs.declared.operation.Reply.{Reply}
use Rattle.bl_page.specs.declared.page.Page.{Page}
use Rattle.bl_page.specs.declared.machine.Missed.{Missed}
use Rattle.bl_page.specs.Machine.{Name, State, Act}
use Rattle.bl_page.specs.Machine.Act.{Miss}
use Rattle.bl_claims.specs.Trails.{Mark, marks_of}
use Rattle.bl_tree_worlds.specs.Worlds.{World, IsGood, Extends}
use Rattle.bl_proc_steps.specs.declared.acts.Action.{Action}
use Rattle.bl_proc_steps.specs.declared.acts.Seen.{Seen}
use Rattle.bl_proc.specs.declared.kinds.Proc.{Proc}
use Rattle.bl_proc.specs.Processes.{next_of, Takes}
use Rattle.bl_proc_invariant.specs.Logs.{proc_log, AllLogs}
use Rattle.bl_proc_invariant.specs.Turns.{event_of, IsObserved, IsShown, Does, Turned}
use Rattle.bl_proc_invariant.specs.Knowing.{Run, know, end_of_proc, run_next}
use Rattle.bl_proc_invariant.proofs.Logged.{turn_logs, miss_logs}
use Rattle.bl_proc_invariant.proofs.Turning.{turn, idle_turn}
use Rattle.bl_proc_bounds.specs.Paces.{AllKept}
use Rattle.bl_proc_bounds.proofs.Kept.{turn_kept, idle_kept}

-- The world after the event is good, and each process has done what it tells, and has kept what it had kept.
pub record Paced (w : World Run) (p : Name) (a : Act Page Reply) (s : State Page) (b : Run) : Type 0 where
  pub turned : Turned know w p a s b
  pub logs : AllLogs turned.next
  pub kept : AllKept w → AllKept turned.next

-- what a turn keeps, where the process was told truly what its next action gave
pub observed_kept : (w w' : World Run) (p : Name) (r b : Run) (what : Seen) (m : Mark) → m.event ≡ record { process = p; act = event_of (end_of_proc r.state) (next_of r.state) what } → w.proc p ≡ r → Extends w w' m b → IsGood know w → IsGood know w' → proc_log r.state (marks_of p w.trail) → Takes r.state what b.state → IsObserved w.now w.size (next_of r.state) what → AllKept w → AllKept w'
observed_kept w w' p r b what m event is e g g' log t observed =
    let mine : w.proc m.event.process ≡ r = ap (λ v. w.proc v.process) event ∙ is in
    let takes : Takes (w.proc m.event.process).state what b.state = subst (λ (z : Run). Takes z.state what b.state) (sym mine) t in
    let here : IsObserved w.now w.size (next_of (w.proc m.event.process).state) what = subst (λ (z : Run). IsObserved w.now w.size (next_of z.state) what) (sym mine) observed in
    let done : proc_log (w.proc m.event.process).state (marks_of m.event.process w.trail) = subst (λ (z : Run). proc_log z.state (marks_of m.event.process w.trail)) (sym mine) (subst (λ q. proc_log r.state (marks_of q w.trail)) (sym (ap (λ v. v.process) event)) log) in
    turn_kept w w' m b what e g g' done takes here (ap (λ v. v.act) event ∙ ap (λ (z : Run). event_of (end_of_proc z.state) (next_of z.state) what) (sym mine))

-- the same of a process of that state
pub state_kept : (w w' : World Run) (p : Name) (old : Proc) (b : Run) (what : Seen) (a : Action) (m : Mark) → m.event ≡ record { process = p; act = event_of (end_of_proc old) a what } → (w.proc p).state ≡ old → next_of old ≡ a → Extends w w' m b → IsGood know w → IsGood know w' → proc_log old (marks_of p w.trail) → Takes old what b.state → IsObserved w.now w.size a what → AllKept w → AllKept w'
state_kept w w' p old b what a m event is next e g g' log t observed =
    let mine : (w.proc m.event.process).state ≡ old = ap (λ v. (w.proc v.process).state) event ∙ is in
    let does : next_of (w.proc m.event.process).state ≡ a = ap next_of mine ∙ next in
    let takes : Takes (w.proc m.event.process).state what b.state = subst (λ (z : Proc). Takes z what b.state) (sym mine) t in
    let here : IsObserved w.now w.size (next_of (w.proc m.event.process).state) what = subst (λ z. IsObserved w.now w.size z what) (sym does) observed in
    let act : event_of (end_of_proc old) a what ≡ event_of (end_of_proc (w.proc m.event.process).state) (next_of (w.proc m.event.process).state) what = (let x = sym mine in let y = sym does in λ i. event_of (end_of_proc (x i)) (y i) what) in
    let done : proc_log (w.proc m.event.process).state (marks_of m.event.process w.trail) = subst (λ (z : Proc). proc_log z (marks_of m.event.process w.trail)) (sym mine) (subst (λ q. proc_log old (marks_of q w.trail)) (sym (ap (λ v. v.process) event)) log) in
    turn_kept w w' m b what e g g' done takes here (ap (λ v. v.act) event ∙ act)

pub paced_turn : (w : World Run) (p : Name) (a : Run) (new : Proc) (what : Seen) (s : State Page) → w.proc p ≡ a → IsGood know w → AllLogs w → Takes a.state what new → IsObserved w.now w.size (next_of a.state) what → IsShown w.now p a.time (next_of a.state) what → Does w.now p (event_of (end_of_proc a.state) (next_of a.state) what) s → Paced w p (event_of (end_of_proc a.state) (next_of a.state) what) s (run_next w.now a what new)
paced_turn w p a new what s is g logs t observed shown does =
    let r = turn w p a new what s is g t observed shown does in
    record { turned = r; logs = turn_logs w p a new what s _ is logs t observed refl r; kept = observed_kept w r.next p a (run_next w.now a what new) what _ refl is r.extends g r.good (subst (λ (z : Run). proc_log z.state (marks_of p w.trail)) is (logs p)) t observed }

pub paced_idle : (w : World Run) (p : Name) (what : Missed) (s : State Page) → IsGood know w → AllLogs w → Does w.now p (Miss what) s → Paced w p (Miss what) s (w.proc p)
paced_idle w p what s g logs does =
    let r = idle_turn w p what s g does in
    record { turned = r; logs = miss_logs w p what s logs r; kept = idle_kept w r.next _ r.extends g r.good refl refl (λ x e. cc) }
