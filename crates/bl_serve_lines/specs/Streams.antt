-- What calls on streams did.
use Rattle.std.specs.Prelude.{◌≡◌, ℕ, ◌≤◌, ◌<◌, ◌+◌, ◌^◌, ◌⊎◌, Bool, true, false, List, [], ◌∷◌, ◌++◌, length, take, Option, Result, Ok, Err}
use Rattle.std.specs.Io.KnownBytes.{Consumes, Keeps, IsAtEnd}
use Rattle.bl_serve_lines.specs.declared.source.Cut.{Cut}
use Rattle.bl_serve_lines.specs.declared.source.Cut.TheVariants.{Whole, Long, Rest, End}
use Rattle.bl_serve_lines.specs.Lines.{HasNoLf}

-- the first count bytes of the buffer were read, none only at the end; or the reader failed, and nothing was
abbrev pub ReadsSome : {E : Type 0} → Result ℕ E → Option (List ℕ) → Option (List ℕ) → List ℕ → Type 0 → Type 0
ReadsSome (Ok count) old new buffer failed = (count ≤ length buffer) × Consumes old new (take count buffer) × (count ≡ 0 → 0 < length buffer → IsAtEnd new)
ReadsSome (Err e) old new buffer failed = Keeps old new × failed

-- what was read goes behind old: there is a byte now, or there is none left, or the reader failed
abbrev pub GivesMore : {E : Type 0} → List ℕ → List ℕ → Result Bool E → List ℕ → Type 0 → Type 0 → Type 0
GivesMore old more (Ok true) new at_end failed = (new ≡ old ++ more) × (0 < length new)
GivesMore old more (Ok false) new at_end failed = (old ≡ []) × (more ≡ []) × (new ≡ []) × at_end
GivesMore old more (Err e) new at_end failed = (old ≡ []) × (more ≡ []) × (new ≡ []) × failed

-- nothing is left and the reader is at its end, unless what came before has 2^64 - 1 bytes or more
abbrev pub EndsRead : List ℕ → List ℕ → Type 0 → Type 0
EndsRead bytes left at_end = ((left ≡ []) × at_end) ⊎ (2 ^ 64 ≤ length bytes + 1)

-- the bytes begin with this line and an LF
pub record IsFirstLine (line bytes : List ℕ) : Type 0 where
  pub rest : List ℕ
  pub cut : HasNoLf line
  pub begins : bytes ≡ line ++ 10 ∷ rest

-- unread begins with the bytes, which have no LF, and what stands behind them is left
abbrev pub CutsLine : {E : Type 0} → List ℕ → List ℕ → Result Cut E → List ℕ → Type 0 → Type 0 → Type 0
CutsLine unread bytes (Ok Whole) left at_end failed = HasNoLf bytes × (length bytes ≤ 69) × (unread ≡ bytes ++ 10 ∷ left)
CutsLine unread bytes (Ok Long) left at_end failed = HasNoLf bytes × (69 < length bytes) × (unread ≡ bytes ++ 10 ∷ left)
CutsLine unread bytes (Ok Rest) left at_end failed = HasNoLf bytes × (0 < length bytes) × (unread ≡ bytes ++ left) × EndsRead bytes left at_end
CutsLine unread bytes (Ok End) left at_end failed = (bytes ≡ []) × (unread ≡ []) × (left ≡ []) × at_end
CutsLine unread bytes (Err e) left at_end failed = HasNoLf bytes × (unread ≡ bytes) × (left ≡ []) × failed
