-- Each process that runs has done what its state tells: its hand knows so, and each turn keeps it.
use Rattle.std.proofs.Common.{ℕ, ◌≡◌, ◌≢◌, sym, ap, ◌∙◌, subst, inl, inr}
use Rattle.bl_model.specs.declared.operation.Reply.{Reply}
use Rattle.bl_page.specs.declared.page.Page.{Page}
use Rattle.bl_page.specs.Machine.{Name, State, Act, Changes}
use Rattle.bl_page.specs.Machine as machine
use Rattle.bl_claims.specs.Trails.{marks_of}
use Rattle.bl_tree_worlds.proofs.Pushes.{name_cases}
use Rattle.bl_proc.specs.declared.kinds.Proc.{Proc}
use Rattle.bl_proc_invariant.specs.Logs.{proc_log}
use Rattle.bl_proc_invariant.specs.Turns.{Turned}
use Rattle.bl_proc_invariant.specs.Knowing.{Run, know}
use Rattle.bl_proc_invariant.proofs.Middles.{KeepsLogs}
use Rattle.bl_store_rule.specs.Pages.{Running, Pages}
use Rattle.bl_index_rule.specs.declared.known.PassState.{PassState}
use Rattle.bl_claims.specs.Seeing.{name}
use Rattle.bl_index_rule.specs.Simulation.{Simulates}
use Rattle.bl_index_rule.proofs.Doings.{log_else}

-- an event of one process leaves the phases of all others
other_phase : (s s' : State Page) (p q : Name) (a : Act Page Reply) → Changes s p a s' → q ≢ p → s'.phase q ≡ s.phase q
other_phase s s' p q Act.Begin c ne = c.2.3.others q ne
other_phase s s' p q (Act.End answer) c ne = c.2.others q ne
other_phase s s' p q (Act.Get x) c ne = c.2 q
other_phase s s' p q (Act.Put x page) c ne = c.2 q
other_phase s s' p q (Act.Take x) c ne = c.2 q
other_phase s s' p q (Act.Latch x) c ne = c.2 q
other_phase s s' p q (Act.Open x) c ne = c.2 q
other_phase s s' p q (Act.Retire x) c ne = c.3.2 q
other_phase s s' p q (Act.Look it) c ne = c.2 q
other_phase s s' p q (Act.Release x) c ne = c.2 q
other_phase s s' p q (Act.Miss what) c ne = c.2 q

fits_logs : (s : Pages PassState) (f : Simulates s) → KeepsLogs f.world
fits_logs s f p since runs =
    let r = f.busy p since runs in
    let d : PassState = r.0 in
    let at = (f.hands p.pass (Running r.1.0) d r.1.2).stage in
    let is : p ≡ name p.pass d.number = λ i. name p.pass (r.2 i) in
    let log : proc_log (f.world.proc (name p.pass d.number)).state (marks_of (name p.pass d.number) f.world.trail) = subst (λ (z : Proc). proc_log z (marks_of (name p.pass d.number) f.world.trail)) (sym at.3) at.5 in
    subst (λ (z : Name). proc_log (f.world.proc z).state (marks_of z f.world.trail)) (sym is) log

-- after a turn, where its own process has done so if it still runs
pub next_logs : (s : Pages PassState) (f : Simulates s) (n m : ℕ) (a : Act Page Reply) (s1 : State Page) (b : Run) (t : Turned know f.world (name n m) a s1 b)
    → ((since : ℕ) → t.next.now.phase (name n m) ≡ machine.Running since → proc_log b.state (marks_of (name n m) t.next.trail)) → KeepsLogs t.next
next_logs s f n m a s1 b t own q since runs = elim (name_cases q (name n m)) [
  | inl e ↦
      let state : (t.next.proc (name n m)).state ≡ b.state = ap (λ (r : Run). r.state) t.extends.proc.at in
      let log : proc_log (t.next.proc (name n m)).state (marks_of (name n m) t.next.trail) = subst (λ (z : Proc). proc_log z (marks_of (name n m) t.next.trail)) (sym state) (own since (ap t.next.now.phase (sym e) ∙ runs)) in
      subst (λ (z : Name). proc_log (t.next.proc z).state (marks_of z t.next.trail)) (sym e) log
  | inr ne ↦
      let before = fits_logs s f q since (sym (other_phase f.world.now t.next.now (name n m) q a t.extends.steps.changes ne) ∙ runs) in
      let state : (t.next.proc q).state ≡ (f.world.proc q).state = ap (λ (r : Run). r.state) (t.extends.proc.others q ne) in
      subst (λ (z : Proc). proc_log z (marks_of q t.next.trail)) (sym state) (log_else f.world (name n m) q a s1 b t ne (f.world.proc q).state before)
]
