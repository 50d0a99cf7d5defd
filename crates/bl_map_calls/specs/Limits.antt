-- What a scan promises that lists so many rows at most.
use Rattle.std.specs.Prelude.{◌≡◌, ℕ, ◌-◌, ◌<◌, ◌≤◌, ◌++◌, List, Option, Some, Result, IfSome, IfOk, OnErr, length, take, drop}
use Rattle.bl_page.specs.declared.page.Page.{Page}
use Rattle.bl_model.specs.declared.operation.Op.TheVariants.{Part}
use Rattle.bl_model.specs.declared.operation.Reply.{Reply}
use Rattle.bl_proc.specs.declared.parts.Direction.TheVariants.{Up}
use Rattle.bl_claims.specs.Trails.{Trail}
use Rattle.bl_index_read.specs.LeafRows.{first_key}
use Rattle.bl_index_read.specs.Searching.{Finds}
use Rattle.bl_index_range.specs.Parts.{rows_below}
use Rattle.bl_index.specs.Limits.{IsNext, AreWanted}
use Rattle.bl_map_calls.specs.Works.{Searches}
use Rattle.bl_map_calls.specs.Scans.{HasScanned}

-- Of the rows that a scan has met the first stand behind those of before, so many at most. It has made no part that was not wanted for them, has
-- done nothing but search for its parts, and says where the next scan begins, with fewer rows only that there is none. Else it has come to
-- some key, and of the rows of the part from there more are wanted than there is room for.
pub record ScannedAtMost {E : Type 0} (first : List (Option Page)) (pages pass from : ℕ) (to : Option ℕ) (most room : ℕ)
    (result : Result (Option ℕ) E) (before after : List (ℕ × ℕ)) (old new : Trail) : Type 0 where
  pub rows : List (ℕ × ℕ)
  pub appended : after ≡ before ++ take most rows
  pub upto : Option ℕ
  pub mid : Trail
  pub scanned : HasScanned first pass Up from to upto rows old mid
  pub searches : Searches first pages pass scanned.parts old mid
  pub wanted : AreWanted Up to most scanned.parts
  pub next : IfOk result (λ next. IsNext Up (first_key (drop most rows)) to upto next × IfSome next (λ _. most ≤ length rows) × (new ≡ mid))
  pub stopped : OnErr result ((key : ℕ) × (reply : Reply) × (upto ≡ Some key) × Finds first pages pass pages (Part key) reply mid new
      × (room < length (take (most - length rows) (rows_below to reply))))
