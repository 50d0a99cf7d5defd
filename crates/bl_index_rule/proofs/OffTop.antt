-- A lowering opens the anchor without the latch of the top page: it keeps the rule, and the pass knows it.
use Rattle.std.proofs.Common.{ℕ, ◌≡◌, true, refl, sym, ap, ◌∙◌, subst, arith}
use Rattle.bl_page.specs.Machine.{Name, Act}
use Rattle.bl_page.specs.Machine as machine
use Rattle.bl_claims.specs.Trails.{Mark, marks_of}
use Rattle.bl_claims.specs.Seeing.{name}
use Rattle.bl_tree_worlds.proofs.After.{is_put_at}
use Rattle.bl_tree_worlds.proofs.Pushes.{marks_of-own}
use Rattle.bl_proc_steps.specs.declared.lowering.Summit.{Summit}
use Rattle.bl_proc.specs.declared.kinds.Proc.{Proc}
use Rattle.bl_proc_invariant.specs.Logs.{proc_log}
use Rattle.bl_proc_invariant.specs.Turns.{Turned}
use Rattle.bl_proc_invariant.specs.Walks.{looking, at_summit}
use Rattle.bl_proc_invariant.specs.Knowing.{Run, know}
use Rattle.bl_proc_invariant.proofs.OffTop.{looking_run, off_top, off_top_log}
use Rattle.bl_proc_bounds.specs.Latches.{IsTidy}
use Rattle.bl_proc_bounds.specs.Paces.{AllKept}
use Rattle.bl_proc_bounds.proofs.Kept.{to_kept}
use Rattle.bl_layout.specs.declared.layout.Layout.{Layout}
use Rattle.bl_store_rule.specs.Pages.{Open, Held, Running, Pages, Stands, observed, owned, Opens}
use Rattle.bl_index_rule.specs.declared.known.PassState.{PassState}
use Rattle.bl_index_rule.specs.Simulation.{Simulates}
use Rattle.bl_index_rule.specs.Observed.{HasLeftTop, leaves_top}
use Rattle.bl_index_rule.proofs.Openings.{opened_at, known_then, fits_then, steps_then}
use Rattle.bl_index_rule.proofs.Pages.{running}
use Rattle.bl_index_rule.proofs.Shown.{is_held}
use Rattle.bl_index_rule.proofs.Stages.{turn_mark}
use Rattle.bl_index_rule.proofs.Turns.{standing}

module _ (s : Pages PassState) (f : Simulates s) (n since : ℕ) (d : PassState) (at : Stands s n (Running since) d) (t : Summit) (state : d.state ≡ at_summit t) where
  abbrev mine : Name
  mine = name n d.number

  abbrev then_run : Run
  then_run = looking_run (f.world.proc mine)

  stood : (f.world.proc mine).state ≡ at_summit t
  stood = (standing s f n since d at).3 ∙ state

  pub turned : Turned know f.world mine (Act.Open 0) (opened_at f 0) then_run
  turned = off_top f.world mine (opened_at f 0) t f.good stood (record { changes = (λ z. refl, is_put_at 0 machine.Owner.Open f.world.now.owner, λ q. refl); on = omega arith })

  abbrev mark : Mark
  mark = turn_mark f.world f.good n d.number (Act.Open 0) (opened_at f 0) then_run turned

  pub log : proc_log looking (marks_of mine turned.next.trail)
  log = subst (proc_log looking) (sym (ap (marks_of mine) turned.extends.trail ∙ marks_of-own mine f.world.trail mark refl))
      (off_top_log t (marks_of mine f.world.trail) mark refl (subst (λ (z : Proc). proc_log z (marks_of mine f.world.trail)) state (standing s f n since d at).5))

  pub kept : AllKept turned.next
  kept = to_kept f.world turned.next mark then_run turned.extends f.good turned.good (λ marks h. subst (λ (z : Proc). IsTidy z marks) stood h) refl (λ x e. cc) f.kept

  abbrev pub top_known : PassState
  top_known = known_then s f n since d at 0 then_run turned log kept

  pub top_fits : Simulates (observed (owned s 0 Open) n (Running since) top_known)
  top_fits = fits_then s f n since d at 0 then_run turned log kept

  pub top_left : HasLeftTop d top_known
  top_left = record { top = t; was = state; steps = steps_then s f n since d at 0 then_run turned log kept; is = refl }

  pub top_held : f.world.now.owner 0 ≡ machine.Held mine
  top_held = turned.extends.steps.enabled

pub leaves_top_page : (l : Layout) (n : ℕ) (d : PassState) → d.runs ≡ true → (t : Summit) × (d.state ≡ at_summit t) → Opens Simulates l n d 0 leaves_top
leaves_top_page l n d runs (t, state) s st words owner f o at page =
    running (λ sg. (owner ≡ Held n) × (e : PassState) × Simulates (observed (owned s 0 Open) n sg e) × leaves_top d 0 owner words e) s f n st d runs at (λ since at'. (
      is_held s.hands n d.number owner (sym (f.owners 0 owner page.1) ∙ top_held s f n since d at' t state),
      top_known s f n since d at' t state,
      top_fits s f n since d at' t state,
      top_left s f n since d at' t state,
    ))
