-- Hints that wait.
use Rattle.std.specs.Prelude.{◌≡◌, ◌⊎◌, ◌+◌, ◌-◌, ◌^◌, ◌++◌, min, Option, Some, None, List, [], ◌∷◌, length}
use Rattle.bl_answers.specs.declared.answers.Hint.{Hint}
use Rattle.bl_waiting.specs.declared.waiting.Waiting.{Waiting}

-- the hints that wait, the oldest first
abbrev pub hints_of : Waiting → List (Option Hint)
hints_of waiting = waiting.hints.items

-- Nothing waits, and nothing was dropped.
abbrev pub IsNone : Waiting → Type 0
IsNone waiting = (hints_of waiting ≡ []) × (waiting.dropped ≡ 0)

-- A hint, if one is left, waits behind the others. Where 32 wait it is dropped, and counted as far as the counter goes.
abbrev pub IsKept : Option Hint → Waiting → Waiting → Type 0
IsKept None old new = new ≡ old
IsKept (Some hint) old new =
    ((hints_of new ≡ hints_of old ++ Some hint ∷ []) × (new.dropped ≡ old.dropped))
    ⊎ ((length (hints_of old) ≡ 32) × (hints_of new ≡ hints_of old) × (new.dropped ≡ min (old.dropped + 1) (2 ^ 64 - 1)))

-- The oldest hint was taken away, or none waited.
abbrev pub IsTaken : Option Hint → Waiting → Waiting → Type 0
IsTaken None old new = (hints_of old ≡ []) × (new ≡ old)
IsTaken (Some hint) old new = (hints_of old ≡ Some hint ∷ hints_of new) × (new.dropped ≡ old.dropped)
