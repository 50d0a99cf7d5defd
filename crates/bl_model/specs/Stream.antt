-- What a contract sees of a watched stream.
use Rattle.std.specs.Prelude.{◌≡◌, ℕ, ◌==◌, Bool, true, false, ◌&&◌, nat_lt, List, ◌++◌, length, Option, Result, Ok, Err, refl}
use Rattle.std.specs.Io.KnownBytes.{Appends}
use Rattle.std.specs.Coded.{Coded, code_by, coded×, coded_bool}

-- the stream, whether a call on it has failed, and whether it took bytes of which no flush has been told since
pub record Stream (T : Type 0) : Type 0 where
  pub inner : T
  pub failed : Bool
  pub pending : Bool

-- a watched stream is stored as its parts
abbrev pub stream_code : {T : Type 0} → Coded T → Coded (Stream T)
stream_code {T} code =
    code_by (T × (Bool × Bool)) (coded× code (coded× coded_bool coded_bool)) (λ s. (s.inner, (s.failed, s.pending))) (λ p. record {
      inner = p.0;
      failed = p.1.0;
      pending = p.1.1;
    }) (λ _. refl)

-- a write failed: it gave an error, or took nothing of a piece that isn't empty
abbrev pub write_failed : {E : Type 0} → Result ℕ E → List ℕ → Bool
write_failed (Ok count) piece = (count == 0) && nat_lt 0 (length piece)
write_failed (Err e) piece = true

-- a write took bytes
abbrev pub has_taken : {E : Type 0} → Result ℕ E → Bool
has_taken (Ok count) = nat_lt 0 count
has_taken (Err e) = false

-- new is old with a beginning of the text
abbrev pub StartsOut : Option (List ℕ) → Option (List ℕ) → List ℕ → Type 0
StartsOut old new text = (out : List ℕ) × (rest : List ℕ) × (text ≡ out ++ rest) × Appends old new out
