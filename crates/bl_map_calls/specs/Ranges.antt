-- What a range promises: rows that the map had at one moment of the call.
use Rattle.std.specs.Prelude.{◌≡◌, ℕ, ◌<◌, ◌≤◌, ◌++◌, List, Option, Result, All, IfOk, IfErr, OnErr, length}
use Rattle.bl_page.specs.declared.page.Page.{Page}
use Rattle.bl_model.specs.declared.operation.Entry.{Entry}
use Rattle.bl_claims.specs.Trails.{Trail, history_of}
use Rattle.bl_claims.specs.Seeing.{IsLinearizable, own, GoesOnFrom}
use Rattle.bl_index_range.specs.Ranges.{IsPartWithin, IsAtOneMoment}
use Rattle.bl_map_calls.specs.declared.ranging.RangeRefusal.{RangeRefusal}
use Rattle.bl_map_calls.specs.declared.ranging.RangeRefusal.TheVariants.{Memory, Unsteady}
use Rattle.bl_map_calls.specs.Works.{Searches}

-- The pass has searched for such parts of the range, and has done nothing else.
pub record SearchesParts (first : List (Option Page)) (pages pass from : ℕ) (to : Option ℕ) (parts : List Entry) (old new : Trail) : Type 0 where
  pub within : All (IsPartWithin pass from to) parts
  pub searches : Searches first pages pass parts old new
  pub begins : GoesOnFrom old new
  pub seen : IsLinearizable first old → IsLinearizable first new
  pub mine : own pass new ≡ own pass old ++ parts

-- A range that was refused has met a part: more of them than it might begin again, where it was for others.
abbrev pub IsRefused : ℕ → List Entry → RangeRefusal → Type 0
IsRefused rounds parts Memory = 0 < length parts
IsRefused rounds parts Unsteady = rounds < length parts

-- It has made parts of the range, and no other entry. It has begun again so many times at most, and its rows, all of one moment, stand behind
-- those of before; or it was refused, and there are none.
pub record Ranged (first : List (Option Page)) (pages pass from : ℕ) (to : Option ℕ) (rounds : ℕ) (result : Result ℕ RangeRefusal)
    (before after : List (ℕ × ℕ)) (old new : Trail) : Type 0 where
  pub parts : List Entry
  pub makes : SearchesParts first pages pass from to parts old new
  pub few : IfOk result (λ again. again ≤ rounds)
  pub told : IfOk result (λ again. (rows : List (ℕ × ℕ)) × (after ≡ before ++ rows) × IsAtOneMoment first pass from to rows (history_of old) (history_of new))
  pub kept : OnErr result (after ≡ before)
  pub refused : IfErr result (IsRefused rounds parts)

-- The same of the number of its rows.
pub record CountsRange (first : List (Option Page)) (pages pass from : ℕ) (to : Option ℕ) (rounds : ℕ) (result : Result ℕ RangeRefusal) (old new : Trail) : Type 0 where
  pub parts : List Entry
  pub makes : SearchesParts first pages pass from to parts old new
  pub told : IfOk result (λ count. (rows : List (ℕ × ℕ)) × (count ≡ length rows) × IsAtOneMoment first pass from to rows (history_of old) (history_of new))
  pub refused : IfErr result (IsRefused rounds parts)
