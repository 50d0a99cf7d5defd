-- Lines that are dealt into shares.
use Rattle.std.specs.Prelude.{ℕ, zero, suc, ◌==◌, List, [], ◌∷◌, if◌then◌else◌}

-- what stands at the places of a share, where these are the shares of all places
abbrev pub dealt : {A : Type 0} → ℕ → List ℕ → List A → List A
dealt share [] xs = []
dealt share (s ∷ deals) [] = []
dealt share (s ∷ deals) (x ∷ xs) = if s == share then x ∷ dealt share deals xs else dealt share deals xs

-- so many numbers, from that one on
abbrev pub numbers : ℕ → ℕ → List ℕ
numbers from zero = []
numbers from (suc count) = from ∷ numbers (suc from) count
