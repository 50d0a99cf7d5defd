-- What a process does next in a world is within its lists.
use Rattle.std.proofs.Common.{ℕ, ◌≡◌, ◌≢◌, ◌<◌, ◌+◌, suc, Some, List, length, slice_get, arith, ap, sym, ◌∙◌, refl, subst}
use Rattle.std.proofs.Math.Logic.{∥∥₁_elim}
use Rattle.std.specs.Coded.{le_prop}
use Rattle.bl_page.specs.declared.page.Page.{Page}
use Rattle.bl_tree.specs.Trees.Status.{Free}
use Rattle.bl_proc_steps.specs.declared.acts.Action.{Action}
use Rattle.bl_proc_steps.specs.declared.acts.Action.TheVariants as act
use Rattle.bl_proc.specs.declared.reclaiming.Reclaim.{Reclaim}
use Rattle.bl_proc.specs.declared.reclaiming.ReclaimStage.{ReclaimStage}
use Rattle.bl_proc.specs.declared.reclaiming.ReclaimStage.TheVariants as reclaim
use Rattle.bl_proc.specs.Reclaims.{reclaim_next_in}
use Rattle.bl_proc.specs.declared.kinds.Proc.{Proc}
use Rattle.bl_proc.specs.declared.kinds.Proc.TheVariants as proc
use Rattle.bl_proc.specs.Processes.{next_of}
use Rattle.bl_proc_invariant.proofs.Near.{IsNear, near}
use Rattle.bl_world.specs.declared.turns.Event.{Event}
use Rattle.bl_world.specs.declared.owners.Owner.{Owner}
use Rattle.bl_world.specs.Views.{name_of}
use Rattle.bl_world.specs.Turns.{IsToRelease}
use Rattle.bl_world.specs.Retirements.{HasSeen}
use Rattle.bl_world.specs.Worlds.{IsReclaiming, HasWorld}
use Rattle.bl_world.proofs.Looks.{IsOfTree, reclaims, see_page, release_page}

-- what a process knows that is to look at another
looks_seen : (es : List Event) (n x k q : ℕ) (stage : ReclaimStage) → reclaim_next_in x stage ≡ act.Look q → IsReclaiming es n x k stage → HasSeen es n x k (length es)
looks_seen es n x k q (reclaim.Looking r) e is = is
looks_seen es n x k q old e is = absurd cc

pub release_only : (p : Proc) (x : ℕ) → IsToRelease p x → (q : Reclaim) × (p ≡ proc.Reclaim q)
release_only (proc.Reclaim q) x e = (q, refl)
release_only old x e = absurd e

one_more : (n : ℕ) → n + 1 ≡ suc n
one_more n = omega arith

-- the number of the page, if the action is of one
abbrev pub IsWithin : ℕ → Action → Type 0
IsWithin size (act.Get x) = x < size
IsWithin size (act.Put x c) = x < size
IsWithin size (act.Latch x) = x < size
IsWithin size (act.Open x) = x < size
IsWithin size (act.Retire x) = x < size
IsWithin size (act.See x) = x < size
IsWithin size (act.Release x) = x < size
IsWithin size action = Unit {0}

pub within : (pages : List Page) (owners : List Owner) (processes : List Proc) (events : List Event) (n : ℕ) (p0 : Proc) (action : Action) → slice_get processes n ≡ Some p0 → next_of p0 ≡ action → HasWorld pages owners processes events → IsWithin (length pages) action
within pages owners processes events n p0 action stood next h =
    let w = h.world in
    let p = name_of (suc n) in
    let is : IsNear w p action = subst (IsNear w p) next (subst (λ z. IsNear w p (next_of z)) (h.runs n p0 stood) (near w p h.good)) in
    by_action action next is
  where
    small : (x : ℕ) → h.world.status x ≢ Free → x < length pages
    small x ne = subst (λ z. x < z) h.size (h.good.owned.small x ne)

    -- the page of a process that is to release it
    its_page : (x : ℕ) (action : Action) → next_of p0 ≡ action → (IsOfTree action → ⊥) → ((q : Reclaim) → next_of (proc.Reclaim q) ≡ action → q.page ≡ x) → x < length pages
    its_page x action e else_so page =
        let old = reclaims p0 (λ tree. else_so (subst IsOfTree e tree)) in
        let same = page old.0 (subst (λ z. next_of z ≡ action) old.1 e) in
        let inside = h.inside n old.0 (stood ∙ ap Some old.1) in
        subst (λ z. z < length pages) same inside

    by_action : (action : Action) → next_of p0 ≡ action → IsNear h.world (name_of (suc n)) action → IsWithin (length pages) action
    by_action (act.Get x) e is = small x (λ f. is (h.good.owned.free x f))
    by_action (act.Put x c) e is = small x (λ i. (let f = h.good.owned.free x i in cc))
    by_action (act.Latch x) e is = small x is
    by_action (act.Open x) e is = small x (λ i. (let f = h.good.owned.free x i in cc))
    by_action act.Begin e is = tt
    by_action act.End e is = tt
    by_action act.Take e is = tt
    by_action (act.Retire x) e is = small x (λ i. (let f = h.good.owned.free x i in cc))
    by_action (act.Look q) e is = tt
    by_action (act.See x) e is = its_page x (act.See x) e (λ z. z) (λ q f. see_page q.page x q.stage f)
    by_action (act.Probe x) e is = tt
    by_action (act.Release x) e is = its_page x (act.Release x) e (λ z. z) (λ q f. release_page q.page x q.stage f)

module _ (pages : List Page) (owners : List Owner) (processes : List Proc) (events : List Event) (n : ℕ) (p0 : Proc) (x : ℕ) (stood : slice_get processes n ≡ Some p0) (h : ∥ HasWorld pages owners processes events ∥₁) where
  pub get_within : next_of p0 ≡ act.Get x → x < length pages
  get_within next = ∥∥₁_elim h le_prop (λ h. within pages owners processes events n p0 (act.Get x) stood next h)

  pub put_within : (c : Page) → next_of p0 ≡ act.Put x c → x < length pages
  put_within c next = ∥∥₁_elim h le_prop (λ h. within pages owners processes events n p0 (act.Put x c) stood next h)

  pub latch_within : next_of p0 ≡ act.Latch x → x < length pages
  latch_within next = ∥∥₁_elim h le_prop (λ h. within pages owners processes events n p0 (act.Latch x) stood next h)

  pub open_within : next_of p0 ≡ act.Open x → x < length pages
  open_within next = ∥∥₁_elim h le_prop (λ h. within pages owners processes events n p0 (act.Open x) stood next h)

  pub retire_within : next_of p0 ≡ act.Retire x → x < length pages
  retire_within next = ∥∥₁_elim h le_prop (λ h. within pages owners processes events n p0 (act.Retire x) stood next h)

  pub see_within : next_of p0 ≡ act.See x → x < length pages
  see_within next = ∥∥₁_elim h le_prop (λ h. within pages owners processes events n p0 (act.See x) stood next h)

  pub release_within : next_of p0 ≡ act.Release x → x < length pages
  release_within next = ∥∥₁_elim h le_prop (λ h. within pages owners processes events n p0 (act.Release x) stood next h)

  -- a process that is to look at another has seen its page retired
  pub not_unseen : next_of p0 ≡ act.Look x → ((y k : ℕ) → IsToRelease p0 y → ¬ HasSeen events (n + 1) y k (length events)) → ⊥
  not_unseen next else_so = ∥∥₁_elim h (λ a b. absurd a) (λ h.
      (let old = reclaims p0 (λ tree. (let f : IsOfTree (act.Look x) = subst IsOfTree next tree in f)) in
      let known = h.reclaiming n old.0 (stood ∙ ap Some old.1) in
      let has = looks_seen events (suc n) old.0.page (h.world.proc (name_of (suc n))).time x old.0.stage (subst (λ z. next_of z ≡ act.Look x) old.1 next) known in
      else_so old.0.page (h.world.proc (name_of (suc n))).time (subst (λ z. IsToRelease z old.0.page) (sym old.1) refl) (rw (one_more n) has)))
