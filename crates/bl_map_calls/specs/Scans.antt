-- What a scan of a handle promises, upwards or downwards.
use Rattle.std.specs.Prelude.{◌≡◌, ℕ, suc, zero, ◌++◌, List, Option, Some, None, Result, All, OnOk, OnErr, flat_map}
use Rattle.std.specs.declared.alloc.AllocError.{AllocError}
use Rattle.bl_page.specs.declared.page.Page.{Page}
use Rattle.bl_model.specs.declared.operation.Entry.{Entry}
use Rattle.bl_proc.specs.declared.parts.Direction.{Direction}
use Rattle.bl_claims.specs.Trails.{Trail, history_of}
use Rattle.bl_claims.specs.Seeing.{IsLinearizable, own, GoesOnFrom}
use Rattle.bl_index_read.specs.LeafRows.{IsBefore, IsFrom, IsPast, AreInOrder}
use Rattle.bl_index_range.specs.Parts.{rows_before}
use Rattle.bl_index.specs.Scans.{AreParts, IsRight, FindsNoRoom}
use Rattle.bl_map_calls.specs.Works.{Searches}

-- the greatest key below that one, if there is one: where a scan downwards ends whose last key is that one
abbrev pub key_below : ℕ → Option ℕ
key_below zero = None
key_below (suc key) = Some key

-- The pass has scanned in that direction from a key on to before another, or to the end of the map: its new entries are parts, and their
-- rows before the scan's end are these, whose keys are in order, and which answer each key on the way right.
pub record HasScanned (first : List (Option Page)) (pass : ℕ) (direction : Direction) (from : ℕ) (to upto : Option ℕ)
    (rows : List (ℕ × ℕ)) (old new : Trail) : Type 0 where
  pub parts : List Entry
  pub are_parts : AreParts direction pass to (Some from) parts upto
  pub begins : GoesOnFrom old new
  pub seen : IsLinearizable first old → IsLinearizable first new
  pub mine : own pass new ≡ own pass old ++ parts
  pub listed : rows ≡ flat_map (λ part. rows_before direction to part.reply) parts
  pub ordered : AreInOrder direction rows
  pub within : All (λ row. IsFrom direction from row.0 × IsBefore direction upto row.0) rows
  pub right : (key : ℕ) → IsFrom direction from key → IsBefore direction upto key → IsBefore direction to key
      → IsRight first pass (history_of old) (history_of new) rows key

-- The rows of a scan have gone where it was to give them: they led from one state there to another. It has done nothing but search for its
-- parts. Without a fault it has come to its end or to that of the map. Else it has come to some key, and the part from there was answered and
-- has so many rows that there is no room for them.
pub record Scanned {S : Type 0} (takes : S → List (ℕ × ℕ) → S → Type 0) (lacks : ℕ → Type 0) (first : List (Option Page)) (pages pass : ℕ)
    (direction : Direction) (from : ℕ) (to : Option ℕ) (result : Result (Unit {0}) AllocError) (before after : S) (old new : Trail) : Type 0 where
  pub rows : List (ℕ × ℕ)
  pub taken : takes before rows after
  pub upto : Option ℕ
  pub mid : Trail
  pub scanned : HasScanned first pass direction from to upto rows old mid
  pub searches : Searches first pages pass scanned.parts old mid
  pub over : OnOk result (IsPast direction to upto × (new ≡ mid))
  pub stopped : OnErr result ((key : ℕ) × (upto ≡ Some key) × FindsNoRoom first pages pass pages direction key to lacks mid new)
  pub begins : GoesOnFrom mid new
  pub seen : IsLinearizable first mid → IsLinearizable first new
