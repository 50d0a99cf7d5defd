-- A page was opened by a turn of the process that a hand runs, whatever that turn is: it keeps the rule, and the pass knows it.
use Rattle.std.proofs.Common.{ℕ, ◌≡◌, ◌≤◌, true, refl, sym, ◌∙◌, subst, arith}
use Rattle.bl_page.specs.declared.page.Page.{Page}
use Rattle.bl_page.specs.Machine.{Name, State, Act}
use Rattle.bl_page.specs.Machine as machine
use Rattle.bl_claims.specs.Trails.{marks_of}
use Rattle.bl_claims.specs.Seeing.{name}
use Rattle.bl_tree_worlds.proofs.After.{put_at}
use Rattle.bl_proc_invariant.specs.Logs.{proc_log}
use Rattle.bl_proc_invariant.specs.Turns.{Turned}
use Rattle.bl_proc_invariant.specs.Knowing.{Run, know}
use Rattle.bl_proc_invariant.proofs.Middles.{KeepsLogs}
use Rattle.bl_proc_bounds.specs.Paces.{AllKept}
use Rattle.bl_store_rule.specs.Pages.{Open, Running, Pages, Stands, observed, owned}
use Rattle.bl_index_rule.specs.declared.known.PassState.{PassState}
use Rattle.bl_index_rule.specs.Simulation.{Simulates}
use Rattle.bl_index_rule.specs.Observed.{Notes, Steps}
use Rattle.bl_index_rule.proofs.Advance.{next_known, advance, next_notes, next_near, next_own, next_stage}
use Rattle.bl_index_rule.proofs.Logs.{next_logs}
use Rattle.bl_index_rule.proofs.Pages.{as_often, kept_owner, shown_owner}
use Rattle.bl_index_rule.proofs.Shown.{same_owner}
use Rattle.bl_index_rule.proofs.Turns.{standing, is_named}

-- the state with that page open
abbrev pub opened_at : {s : Pages PassState} → Simulates s → ℕ → State Page
opened_at f x = record f.world.now { owner = put_at x machine.Owner.Open f.world.now.owner }

module _ (s : Pages PassState) (f : Simulates s) (n since : ℕ) (d : PassState) (at : Stands s n (Running since) d) (x : ℕ) (b : Run) (t : Turned know f.world (name n d.number) (Act.Open x) (opened_at f x) b)
    (log : proc_log b.state (marks_of (name n d.number) t.next.trail)) (kept : AllKept t.next) where
  logs : KeepsLogs t.next
  logs = next_logs s f n d.number (Act.Open x) (opened_at f x) b t (λ z runs. log)

  abbrev pub known_then : PassState
  known_then = next_known s f n d.number (Running since) d at (Act.Open x) (opened_at f x) b t true d.past

  -- the pages go on as the store's do
  pub fits_then : Simulates (observed (owned s x Open) n (Running since) known_then)
  fits_then =
      let is = standing s f n since d at in
      advance s f n d.number (Running since) d at (Act.Open x) (opened_at f x) b t true d.past logs kept (observed (owned s x Open) n (Running since) known_then) (Running since) refl refl (omega arith) f.clock
      (λ q ne. refl)
      (λ y q ne e. kept_owner f.world.now.owner x machine.Owner.Open (λ i. let z : machine.Owner.Open ≡ machine.Held q = i in cc) y e)
      f.pages
      (λ y o e. shown_owner f.world.now.owner x machine.Owner.Open s.owners s.hands Open refl f.owners y o e ∙ sym (same_owner s.hands n (Running since, d) (Running since, known_then) o at refl))
      (next_stage s f n d.number (Running since) d at (Act.Open x) (opened_at f x) b t true d.past since is.2.0 is.2.1 refl is.1 is.2.2 is.4 log)
      (λ z e. refl)
      (λ z e. (since, (let both : machine.Running is.2.0 ≡ machine.Running z = sym is.2.2 ∙ e in let same : is.2.0 ≡ z = cc in subst (λ (w : ℕ). since ≤ w) same is.2.1), refl))
      (λ y version e. as_often s f y version 0 e refl)
      (λ y e. absurd cc)

  pub steps_then : Steps (Act.Open x) d known_then
  steps_then =
      let notes : Notes n d.number (Act.Open x) d known_then = next_notes s f n d.number (Running since) d at (Act.Open x) (opened_at f x) b t true d.past logs kept in
      record {
        notes = subst (λ (z : ℕ). Notes z d.number (Act.Open x) d known_then) (sym (is_named s f n since d at).0) notes;
        runs = refl;
        pages = sym (is_named s f n since d at).1;
        passes = sym (f.counts n (Running since) d at (standing s f n since d at).1);
        past = refl;
        own = next_own s f n d.number (Running since) d at (Act.Open x) (opened_at f x) b t true d.past (standing s f n since d at).4;
        near = next_near s f n d.number (Running since) d at (Act.Open x) (opened_at f x) b t true d.past;
      }
