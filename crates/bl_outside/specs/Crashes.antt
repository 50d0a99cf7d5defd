-- What a crash finds: what was printed, and the log that it leaves.
use Rattle.std.specs.Prelude.{◌⊎◌, ℕ, ◌<◌, ◌≤◌, List, Option}
use Rattle.std.specs.Io.KnownBytes.{Keeps}
use Rattle.bl_model.specs.Stream.{StartsOut}
use Rattle.bl_journal.specs.Logs.{IsLogOf}

-- A crash at any moment from the one to the other finds what has P.
pub record FindsOnly {O : Type 0} (moment : O → ℕ) (finds : O → ℕ → Option (List ℕ) → List ℕ → Type 0) (old new : O) (P : Option (List ℕ) → List ℕ → Type 0) : Type 0 where
  pub later : moment old ≤ moment new
  pub each : (t : ℕ) (told : Option (List ℕ)) (left : List ℕ) → moment old ≤ t → t ≤ moment new → finds new t told left → P told left
  pub past : (t : ℕ) (told : Option (List ℕ)) (left : List ℕ) → t < moment old → finds new t told left → finds old t told left

-- Changes from the one map to the other are kept, and then a text is printed: nothing of it is printed yet, and the log is that of either map; or
-- a beginning of it is, and the log is that of the other one.
abbrev pub KeepsFirst : Option (List ℕ) → List ℕ → (ℕ → Option ℕ) → (ℕ → Option ℕ) → Option (List ℕ) → List ℕ → Type 0
KeepsFirst before text old new told left = (Keeps before told × IsLogOf left old) ⊎ (StartsOut before told text × IsLogOf left new)
