-- What a call promises that looks for the first row from a key on, upwards or downwards, and one that counts rows.
use Rattle.std.specs.Prelude.{◌≡◌, ℕ, ◌-◌, ◌^◌, List, [], ◌∷◌, Option, Some, None, MatchOption, length, min}
use Rattle.bl_page.specs.declared.page.Page.{Page}
use Rattle.bl_claims.specs.Trails.{Trail}
use Rattle.bl_model.specs.Parts.{rows_of, ended_at}
use Rattle.bl_model.specs.declared.operation.Reply.{Reply}
use Rattle.bl_proc.specs.declared.parts.Direction.{Direction}
use Rattle.bl_proc.specs.declared.parts.Direction.TheVariants.{Up}
use Rattle.bl_index_read.specs.LeafRows.{IsOver}
use Rattle.bl_map_calls.specs.declared.least.Found.{Found}
use Rattle.bl_map_calls.specs.declared.least.Found.TheVariants.{Row, GoesOn, Nothing}
use Rattle.bl_map_calls.specs.Works.{Searches}
use Rattle.bl_map_calls.specs.Scans.{HasScanned}

-- The pass has scanned in that direction from a key on until a part had a row, which is the answer; or to the end of the map, and there
-- was none.
pub record FindsFirst (first : List (Option Page)) (pages pass : ℕ) (direction : Direction) (from : ℕ) (answer : Option (ℕ × ℕ)) (old new : Trail) : Type 0 where
  pub rows : List (ℕ × ℕ)
  pub upto : Option ℕ
  pub scanned : HasScanned first pass direction from None upto rows old new
  pub searches : Searches first pages pass scanned.parts old new
  pub is : MatchOption answer ((rows ≡ []) × (upto ≡ None)) (λ row. (others : List (ℕ × ℕ)) × (rows ≡ row ∷ others))

-- The pass has scanned from a key on to an end, or to that of the map, and the answer is how many rows it met; where these are more than a
-- number of 64 bits tells, the greatest such number.
pub record CountsRows (first : List (Option Page)) (pages pass from : ℕ) (to : Option ℕ) (answer : ℕ) (old new : Trail) : Type 0 where
  pub rows : List (ℕ × ℕ)
  pub upto : Option ℕ
  pub scanned : HasScanned first pass Up from to upto rows old new
  pub searches : Searches first pages pass scanned.parts old new
  pub over : IsOver to upto
  pub count : answer ≡ min (length rows) (2 ^ 64 - 1)

-- what a part tells one who looks for the first row
abbrev pub IsFoundIn : Reply → Found → Type 0
IsFoundIn reply (Row row) = (others : List (ℕ × ℕ)) × (rows_of reply ≡ row ∷ others)
IsFoundIn reply (GoesOn key) = (rows_of reply ≡ []) × (ended_at reply ≡ Some key)
IsFoundIn reply Nothing = (rows_of reply ≡ []) × (ended_at reply ≡ None)
