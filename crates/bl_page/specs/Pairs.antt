-- Pairs of a page: each is a key with its value, or the least key of a child with the child's number.
use Rattle.std.specs.Prelude.{◌≡◌, ℕ, ◌+◌, ◌<◌, ◌≤◌, ◌^◌, ◌==◌, if◌then◌else◌, nat_lt, Some, List, [], ◌∷◌}
use Rattle.bl_model.specs.Rows.{map_of}
use Rattle.std.specs.Coded.{×_prop, Unit-prop, le_prop}
use Rattle.std.proofs.Props.{props}

-- The keys below a bound. A bound of 0 is no bound.
abbrev pub end_of : ℕ → ℕ
end_of high = if high == 0 then 2 ^ 64 else high

-- Bounds are half open.
abbrev pub IsWithin : ℕ → ℕ → ℕ → Type 0
IsWithin low high k = (low ≤ k) × (k < end_of high)

-- a page number that an entry may have, below a bound of all numbers
abbrev pub IsNumber : ℕ → ℕ → Type 0
IsNumber most x = (0 < x) × (x < most)

-- the same, below the bound of all page numbers there are
abbrev pub IsChild : ℕ → Type 0
IsChild x = IsNumber (2 ^ 32) x

-- The keys rise strictly, from that key on.
abbrev pub RisesFrom : ℕ → List (ℕ × ℕ) → Type 0
RisesFrom least [] = Unit {0}
RisesFrom least (pair ∷ pairs) = (least ≤ pair.0) × RisesFrom (pair.0 + 1) pairs

-- Every key is within the bounds.
abbrev pub AllWithin : ℕ → ℕ → List (ℕ × ℕ) → Type 0
AllWithin low high [] = Unit {0}
AllWithin low high (pair ∷ pairs) = IsWithin low high pair.0 × AllWithin low high pairs

-- The pairs begin with that key.
abbrev pub BeginsWith : ℕ → List (ℕ × ℕ) → Type 0
BeginsWith low [] = ⊥
BeginsWith low (pair ∷ pairs) = pair.0 ≡ low

-- Every pair names a page, by a number below that bound.
abbrev pub NameNumbers : ℕ → List (ℕ × ℕ) → Type 0
NameNumbers most [] = Unit {0}
NameNumbers most (pair ∷ pairs) = IsNumber most pair.1 × NameNumbers most pairs

abbrev pub NameChildren : List (ℕ × ℕ) → Type 0
NameChildren pairs = NameNumbers (2 ^ 32) pairs

abbrev pub AreNumbers : ℕ → List ℕ → Type 0
AreNumbers most [] = Unit {0}
AreNumbers most (x ∷ xs) = IsNumber most x × AreNumbers most xs

abbrev pub AreChildren : List ℕ → Type 0
AreChildren xs = AreNumbers (2 ^ 32) xs

-- The child is listed with the greatest key that is not above k.
pub record IsChildFor (pairs : List (ℕ × ℕ)) (k child : ℕ) : Type 0 where
  pub key : ℕ
  pub listed : map_of pairs key ≡ Some child
  pub reached : key ≤ k
  pub greatest : (j c : ℕ) → map_of pairs j ≡ Some c → j ≤ k → j ≤ key

-- how many keys are at or below k, where the keys rise
abbrev pub place : ℕ → List (ℕ × ℕ) → ℕ
place k [] = 0
place k (pair ∷ pairs) = if nat_lt k pair.0 then 0 else place k pairs + 1

-- Such facts have one proof at most, so that pages with the same words are the same.

pub RisesFrom-prop : (least : ℕ) (pairs : List (ℕ × ℕ)) → IsProp (RisesFrom least pairs)
RisesFrom-prop least [] = Unit-prop
RisesFrom-prop least (pair ∷ pairs) = ×_prop le_prop (RisesFrom-prop (pair.0 + 1) pairs)

pub IsWithin-prop : (low high k : ℕ) → IsProp (IsWithin low high k)
IsWithin-prop low high k = ×_prop le_prop le_prop

pub IsNumber-prop : (most x : ℕ) → IsProp (IsNumber most x)
IsNumber-prop most x = ×_prop le_prop le_prop

pub IsChild-prop : (x : ℕ) → IsProp (IsChild x)
IsChild-prop x = IsNumber-prop (2 ^ 32) x

pub AllWithin-prop : (low high : ℕ) (pairs : List (ℕ × ℕ)) → IsProp (AllWithin low high pairs)
AllWithin-prop low high [] = Unit-prop
AllWithin-prop low high (pair ∷ pairs) = ×_prop (IsWithin-prop low high pair.0) (AllWithin-prop low high pairs)

pub BeginsWith-prop : (low : ℕ) (pairs : List (ℕ × ℕ)) → IsProp (BeginsWith low pairs)
BeginsWith-prop low [] = hlevel props
BeginsWith-prop low (pair ∷ pairs) = hlevel props

pub NameChildren-prop : (pairs : List (ℕ × ℕ)) → IsProp (NameChildren pairs)
NameChildren-prop [] = Unit-prop
NameChildren-prop (pair ∷ pairs) = ×_prop (IsChild-prop pair.1) (NameChildren-prop pairs)

pub AreChildren-prop : (xs : List ℕ) → IsProp (AreChildren xs)
AreChildren-prop [] = Unit-prop
AreChildren-prop (x ∷ xs) = ×_prop (IsChild-prop x) (AreChildren-prop xs)
