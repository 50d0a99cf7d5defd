-- What a process has done, and one turn more.
use Rattle.std.proofs.Common.{◌≡◌, ◌≢◌, refl, sym, ap, ◌∙◌, subst}
use Rattle.bl_page.specs.declared.page.Page.{Page}
use Rattle.bl_page.specs.Machine.{Name, State}
use Rattle.bl_claims.specs.Trails.{Mark, marks_of}
use Rattle.bl_tree_worlds.proofs.Pushes.{marks_of-own, marks_of-other}
use Rattle.bl_tree_worlds.specs.Worlds.{World}
use Rattle.bl_proc_steps.specs.declared.acts.Action.{Action}
use Rattle.bl_proc_steps.specs.declared.acts.Seen.{Seen}
use Rattle.bl_proc.specs.declared.kinds.Proc.{Proc}
use Rattle.bl_proc.specs.Processes.{next_of}
use Rattle.bl_proc_invariant.specs.Logs.{proc_log}
use Rattle.bl_proc_invariant.specs.Turns.{event_of, IsObserved, Turned}
use Rattle.bl_proc_invariant.specs.Knowing.{Run, know, end_of_proc}
use Rattle.bl_proc_invariant.proofs.Logged.{saw_words, log_turn}
use Rattle.bl_proc_deterministic.specs.Courses.{GoesOn}

-- by its own turn
pub log_after : (w : World Run) (p : Name) (old : Proc) (what : Seen) (c : GoesOn old what) (a : Action) (s : State Page) (b : Run) (t : Turned know w p (event_of (end_of_proc old) a what) s b)
    → next_of old ≡ a → IsObserved w.now w.size a what → proc_log old (marks_of p w.trail) → proc_log c.new (marks_of p t.next.trail)
log_after w p old what c a s b t next observed log =
    let act = event_of (end_of_proc old) a what in
    let m : Mark = record { event = record { process = p; act = act }; saw = t.saw; said = t.said } in
    let trail = ap (marks_of p) t.extends.trail ∙ marks_of-own p w.trail m refl in
    let on = log_turn old c.new what (marks_of p w.trail) m c.takes (ap (λ (z : Action). event_of (end_of_proc old) z what) (sym next))
    (λ x d e f. saw_words (end_of_proc old) w.now w.size t.saw a what observed t.extends.saw x d e f) log in
    subst (proc_log c.new) (sym trail) on

-- by a turn of another
pub log_else : (w : World Run) (p q : Name) (a : _) (s : State Page) (b : Run) (t : Turned know w p a s b) → q ≢ p → (state : Proc) → proc_log state (marks_of q w.trail) → proc_log state (marks_of q t.next.trail)
log_else w p q a s b t ne state log =
    let m : Mark = record { event = record { process = p; act = a }; saw = t.saw; said = t.said } in
    subst (proc_log state) (sym (ap (marks_of q) t.extends.trail ∙ marks_of-other q w.trail m (λ e. ne (sym e)))) log
