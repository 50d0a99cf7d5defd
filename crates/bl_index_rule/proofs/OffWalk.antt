-- A post on its walk gives that up and opens its parent: it keeps the rule, and the pass knows it.
use Rattle.std.proofs.Common.{ℕ, ◌≡◌, true, refl, sym, ap, ◌∙◌, subst, arith}
use Rattle.bl_page.specs.Machine.{Name, Act}
use Rattle.bl_page.specs.Machine as machine
use Rattle.bl_claims.specs.Trails.{marks_of}
use Rattle.bl_tree_worlds.specs.Worlds.{World, IsGood}
use Rattle.bl_tree_worlds.proofs.After.{is_put_at, is_put_name}
use Rattle.bl_proc_steps.specs.declared.acts.Action.TheVariants as act
use Rattle.bl_proc_steps.specs.declared.acts.Seen.TheVariants as seen
use Rattle.bl_proc_writes.specs.declared.walking.Walk.{Walk}
use Rattle.bl_proc_writes.specs.declared.post.Post.{Post}
use Rattle.bl_proc_writes.specs.declared.post.PostStage.TheVariants.{Walking}
use Rattle.bl_proc.specs.declared.kinds.Proc.{Proc}
use Rattle.bl_proc.specs.declared.kinds.Proc.TheVariants as proc
use Rattle.bl_proc_invariant.specs.Logs.{proc_log}
use Rattle.bl_proc_invariant.specs.Turns.{Turned}
use Rattle.bl_proc_invariant.specs.Walks.{off_walk, LeavesWalk}
use Rattle.bl_proc_invariant.specs.Knowing.{Run, know, run_next}
use Rattle.bl_proc_invariant.proofs.Instead.{with_proc, turned_instead}
use Rattle.bl_proc_invariant.proofs.OffWalk.{off_run, off_good, off_log}
use Rattle.bl_proc_bounds.specs.Paces.{AllKept}
use Rattle.bl_proc_bounds.proofs.Kept.{off_kept}
use Rattle.bl_proc_bounds.proofs.Turns.{state_kept}
use Rattle.bl_proc_deterministic.specs.Courses.{GoesOn}
use Rattle.bl_proc_deterministic.proofs.Posts.{post_goes}
use Rattle.bl_layout.specs.declared.layout.Layout.{Layout}
use Rattle.bl_store_rule.specs.Pages.{Open, Held, Running, Pages, Stands, observed, owned, Opens}
use Rattle.bl_index_rule.specs.declared.known.PassState.{PassState}
use Rattle.bl_claims.specs.Seeing.{name}
use Rattle.bl_index_rule.specs.Simulation.{Simulates}
use Rattle.bl_index_rule.specs.Observed.{Goes, leaves_walk}
use Rattle.bl_index_rule.proofs.Openings.{opened_at, known_then, fits_then, steps_then}
use Rattle.bl_index_rule.proofs.Doings.{log_after}
use Rattle.bl_index_rule.proofs.Pages.{running}
use Rattle.bl_index_rule.proofs.Shown.{is_held}
use Rattle.bl_index_rule.proofs.Turns.{standing, turn_of}

module _ (s : Pages PassState) (f : Simulates s) (n since : ℕ) (d : PassState) (at : Stands s n (Running since) d) (a : Post) (v : Walk) (state : d.state ≡ proc.Post a) (walks : a.stage ≡ Walking v) where
  abbrev mine : Name
  mine = name n d.number

  abbrev leaving : Proc
  leaving = proc.Post (off_walk a v)

  -- it opens its parent there
  pub course : GoesOn leaving seen.Done
  course = post_goes (off_walk a v) seen.Done refl tt

  stood : (f.world.proc mine).state ≡ proc.Post a
  stood = (standing s f n since d at).3 ∙ state

  -- the world in which it has given up its walk
  abbrev off_world : World Run
  off_world = with_proc f.world mine (off_run (f.world.proc mine) a v)

  off_is : (off_world.proc mine).state ≡ leaving
  off_is = ap (λ (r : Run). r.state) (is_put_name mine (off_run (f.world.proc mine) a v) f.world.proc).at

  good : IsGood know off_world
  good = off_good f.world mine a v stood walks f.good

  log : proc_log leaving (marks_of mine f.world.trail)
  log = off_log a v (marks_of mine f.world.trail) walks (subst (λ (z : Proc). proc_log z (marks_of mine f.world.trail)) state (standing s f n since d at).5)

  abbrev then_run : Run
  then_run = run_next off_world.now (off_world.proc mine) seen.Done course.new

  pub off_turned : Turned know off_world mine (Act.Open v.at) (opened_at f v.at) then_run
  off_turned = turn_of off_world mine leaving seen.Done (opened_at f v.at) good off_is course (act.Open v.at) refl tt tt (record { changes = (λ z. refl, is_put_at v.at machine.Owner.Open f.world.now.owner, λ q. refl); on = omega arith })

  abbrev turned : Turned know f.world mine (Act.Open v.at) (opened_at f v.at) then_run
  turned = turned_instead know f.world mine (Act.Open v.at) (opened_at f v.at) (off_run (f.world.proc mine) a v) then_run off_turned

  pub then_log : proc_log course.new (marks_of mine turned.next.trail)
  then_log = log_after off_world mine leaving seen.Done course (act.Open v.at) (opened_at f v.at) then_run off_turned refl tt log

  pub kept : AllKept turned.next
  kept = state_kept off_world turned.next mine leaving then_run seen.Done (act.Open v.at) _ refl off_is refl off_turned.extends good off_turned.good log course.takes tt (off_kept f.world mine a v stood f.kept)

  abbrev pub off_known : PassState
  off_known = known_then s f n since d at v.at then_run turned then_log kept

  pub off_fits : Simulates (observed (owned s v.at Open) n (Running since) off_known)
  off_fits = fits_then s f n since d at v.at then_run turned then_log kept

  pub off_held : f.world.now.owner v.at ≡ machine.Held mine
  off_held = turned.extends.steps.enabled

  -- what the pass notes of it, as if the process had stood there
  pub off_goes : Goes seen.Done (record d { state = leaving }) off_known
  off_goes =
      let steps = steps_then s f n since d at v.at then_run turned then_log kept in
      let notes = steps.notes in
      record {
        steps = record {
          notes = record {
            between = notes.between;
            last = notes.last;
            trail = notes.trail;
            event = notes.event;
            first = notes.first;
            seen = notes.seen;
            within = notes.within;
            pass = notes.pass;
            number = notes.number;
            others = notes.others;
            bounded = notes.bounded;
            below = notes.below;
            tidy = notes.tidy;
          };
          runs = steps.runs;
          pages = steps.pages;
          passes = steps.passes;
          past = steps.past;
          own = steps.own;
          near = steps.near;
        };
        saw = λ x c e observed. absurd (let z : Act.Open v.at ≡ Act.Get x = e in cc);
        course = course;
        state = refl;
      }

pub leaves_walk_page : (l : Layout) (n : ℕ) (d : PassState) → d.runs ≡ true → (x : ℕ) → (new : Proc) × LeavesWalk d.state new x → Opens Simulates l n d x leaves_walk
leaves_walk_page l n d runs x (new, leaves) s st words owner f o at page =
    running (λ sg. (owner ≡ Held n) × (e : PassState) × Simulates (observed (owned s x Open) n sg e) × leaves_walk d x owner words e) s f n st d runs at (λ since at'.
    let a = leaves.post in let v = leaves.walk in
    let here = page.1 in
    let held = off_held s f n since d at' a v leaves.is leaves.walks in
    let mine = subst (λ (z : ℕ). f.world.now.owner z ≡ machine.Held (name n d.number)) leaves.at held in
    let e = off_known s f n since d at' a v leaves.is leaves.walks in (
      is_held s.hands n d.number owner (sym (f.owners x owner here) ∙ mine),
      e,
      subst (λ (z : ℕ). Simulates (observed (owned s z Open) n (Running since) e)) leaves.at (off_fits s f n since d at' a v leaves.is leaves.walks),
      (new, leaves, subst (λ (z : Proc). Goes seen.Done (record d { state = z }) e) (sym leaves.then) (off_goes s f n since d at' a v leaves.is leaves.walks)),
    ))
