-- Text that goes out by way of a buffer. Private functions cite this, and no public clause does.
use Rattle.std.specs.Prelude.{◌≡◌, ◌⊎◌, ℕ, ◌≤◌, Bool, Option, List, [], ◌++◌}
use Rattle.std.specs.Io.KnownBytes.{Appends}
use Rattle.bl_replay_script.specs.declared.command.Command.{Command}
use Rattle.bl_replay_script.specs.declared.command.Command.TheVariants as command
use Rattle.bl_world.specs.Views.{View}
use Rattle.bl_replay.specs.Plays.{Does, PrintsTurns, PrintsSettling}

-- Behind what was pending the text was added, and some of it all was written, and is pending no more.
abbrev pub Emits : Option (List ℕ) → Option (List ℕ) → List ℕ → List ℕ → List ℕ → Type 0
Emits old new pending left text = (out : List ℕ) × Appends old new out × (pending ++ text ≡ out ++ left)

-- A command printed this before it was broken off: nothing, all of its text, or that of some turns of a run or of a world that was left to
-- itself.
abbrev pub Partly : Bool → View → Command → List ℕ → Type 0
Partly with_pages v c text = (text ≡ [])
    ⊎ (((v' : View) × Does with_pages v c text v')
    ⊎ (((number : ℕ) × (most : ℕ) × (count : ℕ) × (v' : View) × (c ≡ command.Run number most) × (count ≤ most) × PrintsTurns with_pages number v count text v')
    ⊎ ((most : ℕ) × (count : ℕ) × (v' : View) × (c ≡ command.Settle most) × (count ≤ most) × PrintsSettling with_pages v count text v')))
