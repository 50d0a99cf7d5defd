-- What a scan tells that lists so many rows at most.
use Rattle.std.specs.Prelude.{◌≡◌, ℕ, ◌-◌, ◌<◌, ◌≤◌, ◌++◌, List, [], ◌∷◌, Option, Some, None, Result, IfSome, IfOk, IfErr, min, length, take, drop}
use Rattle.bl_page.specs.declared.page.Page.{Page}
use Rattle.bl_model.specs.declared.operation.Entry.{Entry}
use Rattle.bl_proc.specs.declared.parts.Direction.{Direction}
use Rattle.bl_claims.specs.Trails.{Trail}
use Rattle.bl_index_read.specs.LeafRows.{first_key, IsBefore, IsPast}
use Rattle.bl_index_range.specs.Parts.{rows_before}
use Rattle.bl_index.specs.declared.scanning.ScanFault.{ScanFault}
use Rattle.bl_index.specs.Scans.{Scans, left_from, StopsAt}

-- The next scan begins there: at the first row that was met and not listed; where there is none, at the key to which the scan has come; and
-- nowhere, if nothing of it is left from there on.
abbrev pub IsNext : Direction → Option ℕ → Option ℕ → Option ℕ → Option ℕ → Type 0
IsNext direction (Some left) to upto next = next ≡ Some left
IsNext direction None to upto (Some next) = (upto ≡ Some next) × IsBefore direction to next
IsNext direction None to upto None = IsPast direction to upto

-- Before each of these parts fewer rows were met than so many.
abbrev pub AreWanted : Direction → Option ℕ → ℕ → List Entry → Type 0
AreWanted direction to most [] = Unit {0}
AreWanted direction to most (part ∷ parts) = (0 < most) × AreWanted direction to (most - length (rows_before direction to part.reply)) parts

-- Of the rows that a scan has met the first stand behind those of before, so many at most, and it has made no part that was not wanted for
-- them. It says where the next scan begins, with fewer rows only that there is none. Else it has stopped at a part that was wanted, for which
-- there was no room, or which ran out of turns, and nothing of that part is listed.
pub record ScansSome (first : List (Option Page)) (pages pass turns : ℕ) (direction : Direction) (from : ℕ) (to : Option ℕ) (most room : ℕ)
    (result : Result (Option ℕ) ScanFault) (before after : List (ℕ × ℕ)) (old new : Trail) : Type 0 where
  pub rows : List (ℕ × ℕ)
  pub appended : after ≡ before ++ take most rows
  pub upto : Option ℕ
  pub mid : Trail
  pub scans : Scans first pages pass turns direction from to upto rows old mid
  pub wanted : AreWanted direction to most scans.parts
  pub next : IfOk result (λ next. IsNext direction (first_key (drop most rows)) to upto next × IfSome next (λ _. most ≤ length rows) × (new ≡ mid))
  pub stopped : IfErr result (λ fault. (upto ≡ Some (left_from fault)) × IsBefore direction to (left_from fault) × (length rows < most)
      × StopsAt first pages pass turns direction to (λ many. room < min (most - length rows) many) fault mid new)
