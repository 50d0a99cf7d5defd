-- What a range tells the pass that makes it: rows that the map had at one moment of the call.
use Rattle.std.specs.Prelude.{◌≡◌, ℕ, ◌<◌, ◌≤◌, ◌++◌, All, length, List, [], ◌∷◌, Option}
use Rattle.bl_page.specs.declared.page.Page.{Page}
use Rattle.bl_model.specs.Map.{ListsPairs}
use Rattle.bl_model.specs.History.{final_map, entries_of_pass}
use Rattle.bl_model.specs.declared.operation.Entry.{Entry}
use Rattle.bl_model.specs.declared.operation.Op.TheVariants.{Part}
use Rattle.bl_claims.specs.Trails.{Trail, history_of}
use Rattle.bl_claims.specs.Seeing.{first_map, IsLinearizable, own, GoesOnFrom}
use Rattle.bl_index_read.specs.LeafRows.{IsBelow}
use Rattle.bl_index_read.specs.Searching.{RunsOut}
use Rattle.bl_index_range.specs.Parts.{AreCalls}
use Rattle.bl_index_range.specs.declared.ranging.RangeFault.{RangeFault}
use Rattle.bl_index_range.specs.declared.ranging.RangeFault.TheVariants.{Memory, OutOfTurns, Unsteady}

-- an entry of the pass that is a part of the range
pub record IsPartWithin (pass from : ℕ) (to : Option ℕ) (entry : Entry) : Type 0 where
  pub mine : entry.pass ≡ pass
  pub key : ℕ
  pub op : entry.op ≡ Part key
  pub low : from ≤ key
  pub below : IsBelow to key

-- The pass has made such parts, one after another, each with so many turns, and nothing else.
pub record MakesParts (first : List (Option Page)) (pages pass turns from : ℕ) (to : Option ℕ) (parts : List Entry) (old new : Trail) : Type 0 where
  pub within : All (IsPartWithin pass from to) parts
  pub calls : AreCalls first pages pass turns parts old new
  pub begins : GoesOnFrom old new
  pub seen : IsLinearizable first old → IsLinearizable first new
  pub mine : own pass new ≡ own pass old ++ parts

-- The rows are those between two keys that the map had where the last of the pass's entries, which is a part of the range, stands in the
-- history, which was old before the call and is new after it: all of them at this one moment.
pub record IsAtOneMoment (first : List (Option Page)) (pass from : ℕ) (to : Option ℕ) (rows : List (ℕ × ℕ)) (old new : List Entry) : Type 0 where
  pub before : List Entry
  pub last : Entry
  pub after : List Entry
  pub stands : new ≡ old ++ (before ++ last ∷ after)
  pub part : IsPartWithin pass from to last
  pub latest : entries_of_pass pass after ≡ []
  pub lists : ListsPairs (final_map (first_map first) (old ++ before)) (λ key. (from ≤ key) × IsBelow to key) rows

-- The pass has made parts of the range, and nothing else; and the rows are those of one moment.
pub record ReadsRange (first : List (Option Page)) (pages pass turns from : ℕ) (to : Option ℕ) (rows : List (ℕ × ℕ)) (old new : Trail) : Type 0 where
  pub parts : List Entry
  pub makes : MakesParts first pages pass turns from to parts old new
  pub moment : IsAtOneMoment first pass from to rows (history_of old) (history_of new)

-- Why a range stopped that had made these parts: there was no room for what the last one read; or one more ran out of turns; or it had begun
-- again so many times, and so had made more parts than that.
abbrev pub StopsFor : List (Option Page) → ℕ → ℕ → ℕ → ℕ → List Entry → RangeFault → Trail → Trail → Type 0
StopsFor first pages pass turns rounds parts Memory mid new = (0 < length parts) × (new ≡ mid)
StopsFor first pages pass turns rounds parts OutOfTurns mid new = RunsOut first pages pass turns mid new
StopsFor first pages pass turns rounds parts Unsteady mid new = (rounds < length parts) × (new ≡ mid)

-- A range has stopped. The pass has made parts of it, and nothing else.
pub record StopsRange (first : List (Option Page)) (pages pass turns rounds from : ℕ) (to : Option ℕ) (fault : RangeFault) (old new : Trail) : Type 0 where
  pub parts : List Entry
  pub mid : Trail
  pub makes : MakesParts first pages pass turns from to parts old mid
  pub stops : StopsFor first pages pass turns rounds parts fault mid new
