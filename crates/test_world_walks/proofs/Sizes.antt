-- A world keeps its number of pages.
use Rattle.std.proofs.Common.{◌≡◌, ◌≢◌, List, [], ◌∷◌, Result, Ok, Err, OnOk, length, ap, ◌∙◌, refl}
use Rattle.bl_world.specs.declared.turns.Turn.{Turn}
use Rattle.bl_world.specs.declared.turns.WorldFault.{WorldFault}
use Rattle.bl_world.specs.declared.turns.WorldFault.TheVariants as fault
use Rattle.bl_world.specs.Views.{View}
use Rattle.bl_world.specs.Turns.{RunsTo, RunsInto, HasUnknown}
use Rattle.bl_world.proofs.Runs.{turn_size}

runs_size : (v v' : View) (turns : List Turn) → RunsTo v turns v' → length v'.pages ≡ length v.pages
runs_size v v' [] r = ap (λ (z : View). length z.pages) r
runs_size v v' (turn ∷ turns) r = runs_size r.0 v' turns r.2 ∙ turn_size v r.0 turn r.1

-- by what a call of `run` answered
pub ran_size : {A : Type 0} (answer : Result A WorldFault) (v v' : View) (turns : List Turn) → OnOk answer (RunsTo v turns v') → (answer ≡ Err fault.Memory → RunsInto v turns v') → (answer ≡ Err fault.NoSuchProcess → HasUnknown v turns × (v' ≡ v)) → answer ≢ Err fault.BadPages → length v'.pages ≡ length v.pages
ran_size (Ok a) v v' turns ok memory none never = runs_size v v' turns ok
ran_size (Err fault.Memory) v v' turns ok memory none never = let m = memory refl in runs_size v v' m.0 m.4
ran_size (Err fault.NoSuchProcess) v v' turns ok memory none never = ap (λ (z : View). length z.pages) ((none refl).1)
ran_size (Err fault.BadPages) v v' turns ok memory none never = absurd (never refl)
