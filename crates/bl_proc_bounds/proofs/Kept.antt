-- What each process keeps, at each kind of turn.
use Rattle.std.proofs.Common.{ℕ, ◌≡◌, ◌≢◌, [], ap, refl, sym, subst, ◌∙◌}
use Rattle.bl_page.specs.Machine.{Name}
use Rattle.bl_page.specs.Machine.Act.{Latch}
use Rattle.bl_claims.specs.Trails.{Mark, Trail, marks_of}
use Rattle.bl_proc_bounds.specs.Latches.{IsTidy}
use Rattle.bl_tree_worlds.specs.Worlds.{Stage, World, IsGood, Extends}
use Rattle.bl_proc_steps.specs.declared.acts.Seen.{Seen}
use Rattle.bl_proc_writes.specs.declared.walking.Walk.{Walk}
use Rattle.bl_proc_writes.specs.declared.post.Post.{Post}
use Rattle.bl_proc.specs.declared.kinds.Proc.{Proc}
use Rattle.bl_proc.specs.declared.kinds.Proc.TheVariants as proc
use Rattle.bl_proc.specs.Processes.{next_of, Takes}
use Rattle.bl_proc_invariant.specs.Logs.{proc_log}
use Rattle.bl_proc_invariant.specs.Turns.{event_of, IsObserved}
use Rattle.bl_proc_invariant.specs.Knowing.{Run, know, end_of_proc}
use Rattle.bl_proc_invariant.proofs.Instead.{with_proc}
use Rattle.bl_proc_invariant.proofs.GivingUp.{left_of}
use Rattle.bl_proc_invariant.proofs.OffWalk.{off_run}
use Rattle.bl_claims.specs.Bounds.{gets_in, puts_in}
use Rattle.bl_proc_bounds.specs.Paces.{place_of, AllKept}
use Rattle.bl_proc_bounds.specs.Paces.Place.{Nowhere}
use Rattle.bl_proc_bounds.proofs.Keeping.{turn_paced}
use Rattle.bl_proc_bounds.proofs.Bounded.{idle_paced, left_paced, first_paced, enter_paced, off_paced}
use Rattle.bl_proc_bounds.proofs.Held.{owned_on, owned_first}
use Rattle.bl_proc_bounds.proofs.Latching.{tidy_turn, tidy_still, left_tidy, tidy_to, tidy_enter, tidy_first, off_tidy}

-- A turn of a process that is told something of its next action, truly.
pub turn_kept : (w w' : World Run) (m : Mark) (b : Run) (what : Seen) → Extends w w' m b → IsGood know w → IsGood know w' → proc_log (w.proc m.event.process).state (marks_of m.event.process w.trail) → Takes (w.proc m.event.process).state what b.state → IsObserved w.now w.size (next_of (w.proc m.event.process).state) what → m.event.act ≡ event_of (end_of_proc (w.proc m.event.process).state) (next_of (w.proc m.event.process).state) what → AllKept w → AllKept w'
turn_kept w w' m b what e g g' log t observed act all = record {
  paced = turn_paced w w' m b what e g g' t observed act all.paced;
  owned = owned_on w w' m b e all.owned;
  tidy = tidy_turn w w' m b what e g all.owned log t act all.tidy;
}

-- A turn at which the process stays as it is, and neither gets, puts nor latches a page.
pub idle_kept : (w w' : World Run) (m : Mark) → Extends w w' m (w.proc m.event.process) → IsGood know w → IsGood know w' → gets_in m.event.act ≡ 0 → puts_in m.event.act ≡ 0 → ((x : ℕ) → m.event.act ≢ Latch x) → AllKept w → AllKept w'
idle_kept w w' m e g g' no_get no_put looks all = record {
  paced = idle_paced w w' m e g g' no_get no_put all.paced;
  owned = owned_on w w' m (w.proc m.event.process) e all.owned;
  tidy = tidy_still w w' m e g all.owned looks all.tidy;
}

-- what stands for a process that has given up searches nowhere
left_nowhere : (a : Proc) → place_of (left_of a) ≡ Nowhere
left_nowhere (proc.Find p) = refl
left_nowhere (proc.Write p) = refl
left_nowhere (proc.Post p) = refl
left_nowhere (proc.Part p) = refl
left_nowhere (proc.Compress p) = refl
left_nowhere (proc.Reclaim p) = refl
left_nowhere (proc.Lower p) = refl
left_nowhere (proc.InsertPost p) = refl

-- A turn at which the process latches nothing, and after which it is one that searches nowhere and may have latched what it has.
pub to_kept : (w w' : World Run) (m : Mark) (b : Run) → Extends w w' m b → IsGood know w → IsGood know w' → ((marks : Trail) → IsTidy (w.proc m.event.process).state marks → IsTidy b.state marks) → place_of b.state ≡ Nowhere → ((x : ℕ) → m.event.act ≢ Latch x) → AllKept w → AllKept w'
to_kept w w' m b e g g' means nowhere looks all = record {
  paced = left_paced w w' m b e g g' nowhere all.paced;
  owned = owned_on w w' m b e all.owned;
  tidy = tidy_to w w' m b e g all.owned means looks all.tidy;
}

-- A process that runs gives up.
pub left_kept : (w w' : World Run) (m : Mark) (b : Run) → Extends w w' m b → IsGood know w → IsGood know w' → b.state ≡ left_of (w.proc m.event.process).state → (know (w.proc m.event.process)).stage ≡ Stage.Busy → ((x : ℕ) → m.event.act ≢ Latch x) → AllKept w → AllKept w'
left_kept w w' m b e g g' is busy looks all =
    let r = w.proc m.event.process in
    to_kept w w' m b e g g' (λ marks h. subst (λ (z : Proc). IsTidy z marks) (sym is) (left_tidy r.got r.child r.time r.state marks busy h)) (ap place_of is ∙ left_nowhere r.state) looks all

-- a world in which nothing has happened and none has begun
pub first_kept : (w : World Run) → w.trail ≡ [] → ((p : Name) → (know (w.proc p)).stage ≡ Stage.Early) → AllKept w
first_kept w none blank = record { paced = first_paced w blank; owned = owned_first w none; tidy = tidy_first w none }

-- a world that one enters who has done nothing
pub enter_kept : (w : World Run) (p : Name) (b : Run) → marks_of p w.trail ≡ [] → (know b).stage ≡ Stage.Early → AllKept w → AllKept (with_proc w p b)
enter_kept w p b none early all = record { paced = enter_paced w p b early all.paced; owned = all.owned; tidy = tidy_enter w p b none all.tidy }

-- a world in which a post has given up its walk
pub off_kept : (w : World Run) (p : Name) (a : Post) (v : Walk) → (w.proc p).state ≡ proc.Post a → AllKept w → AllKept (with_proc w p (off_run (w.proc p) a v))
off_kept w p a v is all = record { paced = off_paced w p a v all.paced; owned = all.owned; tidy = off_tidy w p a v is all.tidy }
