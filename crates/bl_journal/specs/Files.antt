-- What a crash may leave of a file, and what the calls of a device do to it.
use Rattle.std.specs.Prelude.{◌≡◌, ◌⊎◌, ℕ, ◌+◌, ◌<◌, ◌≤◌, List, ◌++◌, length, take, drop, replicate}
use Rattle.std.specs.List.{AllZip}

-- so many bytes from that place on are zeros
pub record AreZeros (bytes : List ℕ) (at count : ℕ) : Type 0 where
  pub within : at + count ≤ length bytes
  pub zeros : take count (drop at bytes) ≡ replicate count 0

-- new is old with these bytes from that place on
abbrev pub IsFilled : List ℕ → ℕ → List ℕ → List ℕ → Type 0
IsFilled old at bytes new = new ≡ take at old ++ bytes ++ drop (at + length bytes) old

-- of each byte there is a zero still, or what was written
abbrev pub AreTorn : List ℕ → List ℕ → Type 0
AreTorn some bytes = AllZip (λ left written. (left ≡ 0) ⊎ (left ≡ written)) some bytes

-- A write over zeros that a crash cuts short leaves of each byte a zero or what was written, and changes nothing else.
abbrev pub Fills : ℕ → List ℕ → List ℕ → List ℕ → Type 0
Fills at bytes old left = (some : List ℕ) × AreTorn some bytes × IsFilled old at some left

-- a replacement leaves the old file or the new one, whole
abbrev pub Replaces : List ℕ → List ℕ → List ℕ → Type 0
Replaces file old left = (left ≡ old) ⊎ (left ≡ file)

-- any other call leaves the file as it was
abbrev pub Keeps : List ℕ → List ℕ → Type 0
Keeps old left = left ≡ old

-- a crash leaves this and nothing else
abbrev pub Only : List ℕ → (List ℕ → Type 0) → Type 0
Only file left = (c : List ℕ) → left c → c ≡ file

-- Time goes on from one moment to another, during a call that does such a thing to the file: what a crash at a moment since may leave comes by
-- it from what one before the call might have left. What one at an earlier moment might have left does not change.
pub record Goes (before now : ℕ) (old new : ℕ → List ℕ → Type 0) (does : List ℕ → List ℕ → Type 0) : Type 0 where
  pub later : before ≤ now
  pub since : (t : ℕ) (c : List ℕ) → before ≤ t → t ≤ now → new t c → (was : List ℕ) × old before was × does was c
  pub past : (t : ℕ) (c : List ℕ) → t < before → new t c → old t c

-- A crash at any moment from the one to the other leaves a file that has P.
pub record LeavesOnly {D : Type 0} (moment : D → ℕ) (leaves : D → ℕ → List ℕ → Type 0) (old new : D) (P : List ℕ → Type 0) : Type 0 where
  pub later : moment old ≤ moment new
  pub each : (t : ℕ) (c : List ℕ) → moment old ≤ t → t ≤ moment new → leaves new t c → P c
  pub past : (t : ℕ) (c : List ℕ) → t < moment old → leaves new t c → leaves old t c
