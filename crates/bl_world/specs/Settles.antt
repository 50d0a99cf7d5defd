-- A world that is left to itself comes to rest.
use Rattle.std.specs.Prelude.{ℕ, suc, ◌+◌, ◌*◌, None}
use Rattle.bl_world.specs.declared.turns.Turn.{Turn}
use Rattle.bl_world.specs.Views.{View}
use Rattle.bl_world.specs.Turns.{TurnsTo}
use Rattle.bl_world.specs.Choices.{Chooses}
use Rattle.bl_world.specs.Waits.{MayGoOn}

-- So many turns led from the first world to the last one, each of a process that might go on, and the one that came next for it. No
-- process was started meanwhile.
pub data Settles (v : View) : ℕ → View → Type 0 where
  Rests : Settles v 0 v
  Goes : {count : ℕ} {mid v' : View} (number : ℕ) (turn : Turn) → Settles v count mid → MayGoOn mid number → Chooses mid number None turn → TurnsTo mid turn v'
      → Settles v (suc count) v'

-- so many turns are enough, in so many pages, for so many processes
abbrev pub turns_to_rest : ℕ → ℕ → ℕ
turns_to_rest pages processes = (26 * processes + 25) * (processes * (8 * pages + processes + 55) + 1)
