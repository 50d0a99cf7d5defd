-- A call leads from a world to a world, and its account goes on.
use Rattle.std.proofs.Common.{ℕ, ◌≡◌, ◌<◌, ◌≤◌, ◌^◌, ◌++◌, List, [], ◌∷◌, Result, Ok, Err, IfOk, OnOk, OnErr, sym, refl, subst, append-nil}
use mathlib.Core.Logic.{∥∥₁_map}
use Rattle.bl_proc.specs.declared.kinds.Proc.{Proc}
use Rattle.bl_world.specs.declared.turns.Turn.{Turn}
use Rattle.bl_world.specs.Views.{View}
use Rattle.bl_world.specs.Turns.{RunsTo, RunsInto}
use Rattle.bl_world.specs.Settles.{Settles}
use Rattle.bl_world.specs.Settles.Settles.{Rests, Goes as GoesOn}
use Rattle.bl_world.specs.WorldSteps.{MayStart, Starts, Way}
use Rattle.bl_world.specs.Accounts.{Continues}
use Rattle.bl_world.specs.Worlds.{key_in, IsWorld}
use Rattle.bl_world.proofs.Keeping.{Has, GrowsTo, runs_grow}
use Rattle.bl_world.proofs.Entering.{enters}
use Rattle.bl_world.proofs.Runs.{runs_on}
use Rattle.bl_world.proofs.Ways.{way_start, way_run}
use Rattle.bl_world.proofs.Accounting.{continues}

-- what stands after is again of a world, with a way to it and an account that goes on
pub record Goes (v v' : View) : Type 0 where
  pub world : IsWorld v'
  pub way : ∥ Way v' ∥₁
  pub account : ∥ Continues v v' ∥₁

goes : (v v' : View) → IsWorld v → ∥ Way v ∥₁ → ((h : Has v) → GrowsTo h v') → (Way v → Way v') → Goes v v'
goes v v' h way grows on = record { world = ∥∥₁_map h (λ h. (grows h).0); way = ∥∥₁_map way on; account = continues v v' h way grows on }

pub stays : (v v' : View) → IsWorld v → ∥ Way v ∥₁ → v' ≡ v → Goes v v'
stays v v' h way e = goes v v' h way (λ h. subst (λ z. GrowsTo h z) (sym e) (h, ([], sym (append-nil h.world.trail)), λ x far. refl)) (λ w. subst Way (sym e) w)

pub starts : (v v' : View) (p : Proc) → key_in p < 2 ^ 64 → MayStart v p → IsWorld v → ∥ Way v ∥₁ → Starts v p v' → Goes v v'
starts v v' p small next h way e = goes v v' h way (λ h. subst (λ z. GrowsTo h z) (sym e) (enters v.pages v.owners v.processes v.events p small next h)) (way_start v v' p next e)

pub runs : (v v' : View) (turns : List Turn) → IsWorld v → ∥ Way v ∥₁ → RunsTo v turns v' → Goes v v'
runs v v' turns h way r = goes v v' h way (λ h. runs_grow v v' turns h r) (way_run v v' turns r)

-- by what a call answered
pub started : {A E : Type 0} (r : Result A E) (v v' : View) (p : Proc) → key_in p < 2 ^ 64 → MayStart v p → IsWorld v → ∥ Way v ∥₁ → OnOk r (Starts v p v') → OnErr r (v' ≡ v) → Goes v v'
started (Ok a) v v' p small next h way ok err = starts v v' p small next h way ok
started (Err e) v v' p small next h way ok err = stays v v' h way err

pub ran : {A E : Type 0} (r : Result A E) (v v' : View) (turns : List Turn) → IsWorld v → ∥ Way v ∥₁ → OnOk r (RunsTo v turns v') → OnErr r (RunsInto v turns v') → Goes v v'
ran (Ok a) v v' turns h way ok err = runs v v' turns h way ok
ran (Err e) v v' turns h way ok err = runs v v' err.0 h way err.4

-- A world that was left to itself went on by turns.
runs_of : (v v' : View) (count : ℕ) → Settles v count v' → (turns : List Turn) × RunsTo v turns v'
runs_of v v' count Rests = ([], refl)
runs_of v v' count (GoesOn {mid = mid} number t s go chosen to) = (let r = runs_of v mid _ s in (r.0 ++ t ∷ [], runs_on v mid v' r.0 t r.1 to))

pub settled : (v v' : View) (count : ℕ) → IsWorld v → ∥ Way v ∥₁ → Settles v count v' → Goes v v'
settled v v' count h way s = (let r = runs_of v v' count s in runs v v' r.0 h way r.1)

pub has_settled : {E : Type 0} (r : Result ℕ E) (v v' : View) (most : ℕ) → IsWorld v → ∥ Way v ∥₁ → IfOk r (λ count. Settles v count v' × (count ≤ most)) → OnErr r ((count : ℕ) × Settles v count v') → Goes v v'
has_settled (Ok count) v v' most h way ok err = settled v v' count h way ok.0
has_settled (Err e) v v' most h way ok err = settled v v' err.0 h way err.1
