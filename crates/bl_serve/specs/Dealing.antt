-- How lines are dealt into shares.
use Rattle.std.specs.Prelude.{◌≡◌, ◌==◌, ℕ, ◌-◌, ◌*◌, ◌/◌, ◌%◌, ◌<◌, ◌^◌, min, true, List, Option, Some, None}
use Rattle.std.specs.List.{AllZip}
use Rattle.bl_serve_lines.specs.declared.request.Request.{Request}
use Rattle.bl_serve_lines.specs.declared.request.Request.TheVariants.{Ask, Add}
use Rattle.bl_serve_lines.specs.Served.{is_on}

-- the line asks for operations on that key alone
abbrev pub IsOn : ℕ → Option Request → Type 0
IsOn key (Some (Ask op)) = is_on key op ≡ true
IsOn key (Some (Add its number)) = (its == key) ≡ true
IsOn key other = ⊥

-- the key that a line is about, if it is about one alone
abbrev pub IsKeyOf : Option Request → Option ℕ → Type 0
IsKeyOf asked None = (key : ℕ) → ¬ IsOn key asked
IsKeyOf asked (Some its) = (key : ℕ) → IsOn key asked → its ≡ key

-- the share of a key, of so many
abbrev pub spread : ℕ → ℕ → ℕ
spread key shares = min (key * 11400714819323198485 % 2 ^ 64 / 2 ^ 32 * shares % 2 ^ 64 / 2 ^ 32) (shares - 1)

-- Each line has one of so many shares, and all lines of a key have that of the key.
pub record AreDealt (shares : ℕ) (lines : List (Option Request)) (deals : List ℕ) : Type 0 where
  pub share_of : ℕ → ℕ
  pub low : (key : ℕ) → share_of key < shares
  pub each : AllZip (λ share asked. (share < shares) × ((key : ℕ) → IsOn key asked → share ≡ share_of key)) deals lines
