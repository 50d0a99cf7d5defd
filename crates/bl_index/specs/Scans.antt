-- What a scan tells the pass that makes it: parts, each from where the last one ended, and the rows that they list together.
use Rattle.std.specs.Prelude.{◌≡◌, ℕ, ◌++◌, ◌↔◌, List, [], ◌∷◌, Option, Some, None, Result, Ok, Err, All, Contains, flat_map, length, OnOk, IfErr}
use Rattle.bl_page.specs.declared.page.Page.{Page}
use Rattle.bl_model.specs.History.{final_map}
use Rattle.bl_model.specs.Parts.{ended_at}
use Rattle.bl_model.specs.declared.operation.Entry.{Entry}
use Rattle.bl_model.specs.declared.operation.Reply.{Reply}
use Rattle.bl_proc.specs.declared.parts.Direction.{Direction}
use Rattle.bl_proc.specs.Parts.{op_toward}
use Rattle.bl_claims.specs.Trails.{Trail, history_of}
use Rattle.bl_claims.specs.Seeing.{first_map, IsLinearizable, own, GoesOnFrom}
use Rattle.bl_index_read.specs.Searching.{Finds, RunsOut}
use Rattle.bl_index_read.specs.declared.leaf_rows.Behind.{Behind}
use Rattle.bl_index_range.specs.Parts.{rows_before, AreCalls}
use Rattle.bl_index.specs.declared.scanning.ScanFault.{ScanFault}
use Rattle.bl_index.specs.declared.scanning.ScanFault.TheVariants.{Memory, OutOfTurns}
use Rattle.bl_index.specs.declared.scanning.OutOfTurnsAt.{OutOfTurnsAt}
use Rattle.bl_index_read.specs.LeafRows.{IsBefore, IsFrom, IsPast, AreInOrder, GoesOnWithin}

-- Entries of the pass that are parts in that direction: the first from that key on, and each further one from where the last one ended,
-- all of them from before the scan's end. Together they end before upto, or go to the end of the map.
abbrev pub AreParts : Direction → ℕ → Option ℕ → Option ℕ → List Entry → Option ℕ → Type 0
AreParts direction pass to from [] upto = upto ≡ from
AreParts direction pass to None (e ∷ es) upto = ⊥
AreParts direction pass to (Some from) (e ∷ es) upto =
    (e.pass ≡ pass) × (e.op ≡ op_toward direction from) × IsBefore direction to from × AreParts direction pass to (ended_at e.reply) es upto

-- A scan answers a key right: its rows list the key with the value that the map had for it, or do not list it, as the map stood
-- where one of its parts stands in the history. The history was old before the scan, and is new after it.
pub record IsRight (first : List (Option Page)) (pass : ℕ) (old new : List Entry) (rows : List (ℕ × ℕ)) (key : ℕ) : Type 0 where
  pub before : List Entry
  pub part : Entry
  pub after : List Entry
  pub stands : new ≡ old ++ (before ++ part ∷ after)
  pub mine : part.pass ≡ pass
  pub right : (value : ℕ) → Contains rows (key, value) ↔ (final_map (first_map first) (old ++ before) key ≡ Some value)

-- The pass has scanned in that direction from a key on to before another, or to the end of the map: its new entries are the parts, and
-- their rows before the scan's end are these, whose keys are in order, and which answer each key on the way right.
pub record Scans (first : List (Option Page)) (pages pass turns : ℕ) (direction : Direction) (from : ℕ) (to upto : Option ℕ)
    (rows : List (ℕ × ℕ)) (old new : Trail) : Type 0 where
  pub parts : List Entry
  pub are_parts : AreParts direction pass to (Some from) parts upto
  pub calls : AreCalls first pages pass turns parts old new
  pub begins : GoesOnFrom old new
  pub seen : IsLinearizable first old → IsLinearizable first new
  pub mine : own pass new ≡ own pass old ++ parts
  pub listed : rows ≡ flat_map (λ part. rows_before direction to part.reply) parts
  pub ordered : AreInOrder direction rows
  pub within : All (λ row. IsFrom direction from row.0 × IsBefore direction upto row.0) rows
  pub right : (key : ℕ) → IsFrom direction from key → IsBefore direction upto key → IsBefore direction to key
      → IsRight first pass (history_of old) (history_of new) rows key

-- A scan has ended: it has come to the end of the map, or to its own.
pub record EndsScan (first : List (Option Page)) (pages pass turns : ℕ) (direction : Direction) (from : ℕ) (to : Option ℕ)
    (rows : List (ℕ × ℕ)) (old new : Trail) : Type 0 where
  pub upto : Option ℕ
  pub over : IsPast direction to upto
  pub scans : Scans first pages pass turns direction from to upto rows old new

-- the key from which a scan that stopped goes on
abbrev pub left_from : ScanFault → ℕ
left_from (Memory from) = from
left_from (OutOfTurns from) = from

-- A part was answered, and of its rows so many lie before the scan's end that there is no room for them.
pub record FindsNoRoom (first : List (Option Page)) (pages pass turns : ℕ) (direction : Direction) (from : ℕ) (to : Option ℕ)
    (lacks : ℕ → Type 0) (old new : Trail) : Type 0 where
  pub reply : Reply
  pub finds : Finds first pages pass turns (op_toward direction from) reply old new
  pub more : lacks (length (rows_before direction to reply))

-- why a scan stopped at a part: its rows had no room, or it ran out of turns
abbrev pub StopsAt : List (Option Page) → ℕ → ℕ → ℕ → Direction → Option ℕ → (ℕ → Type 0) → ScanFault → Trail → Trail → Type 0
StopsAt first pages pass turns direction to lacks (Memory from) old new = FindsNoRoom first pages pass turns direction from to lacks old new
StopsAt first pages pass turns direction to lacks (OutOfTurns from) old new = RunsOut first pages pass turns old new

-- A scan has stopped at a part before its end. Up to there it has scanned, and nothing of that part is among its rows.
pub record StopsScan (first : List (Option Page)) (pages pass turns : ℕ) (direction : Direction) (from : ℕ) (to : Option ℕ)
    (lacks : ℕ → Type 0) (fault : ScanFault) (rows : List (ℕ × ℕ)) (old new : Trail) : Type 0 where
  pub mid : Trail
  pub scans : Scans first pages pass turns direction from to (Some (left_from fault)) rows old mid
  pub left : IsBefore direction to (left_from fault)
  pub stops : StopsAt first pages pass turns direction to lacks fault mid new

-- A scan has ended or stopped, and its rows have gone where it was to give them: they led from one state there to another, and where it
-- stopped for want of room there was none for so many.
pub record MayScan {S : Type 0} (takes : S → List (ℕ × ℕ) → S → Type 0) (lacks : ℕ → Type 0) (first : List (Option Page)) (pages pass turns : ℕ)
    (direction : Direction) (from : ℕ) (to : Option ℕ) (result : Result (Unit {0}) ScanFault) (before after : S) (old new : Trail) : Type 0 where
  pub rows : List (ℕ × ℕ)
  pub taken : takes before rows after
  pub ended : OnOk result (EndsScan first pages pass turns direction from to rows old new)
  pub stopped : IfErr result (λ fault. StopsScan first pages pass turns direction from to lacks fault rows old new)

-- what a scan answers that cannot lack room
abbrev pub roomy : Result (Unit {0}) OutOfTurnsAt → Result (Unit {0}) ScanFault
roomy (Ok done) = Ok done
roomy (Err out) = Err (OutOfTurns out.key)

-- One part of a scan was answered, and its rows before the scan's end have gone there.
pub record GivesPart {S : Type 0} (takes : S → List (ℕ × ℕ) → S → Type 0) (first : List (Option Page)) (pages pass turns : ℕ)
    (direction : Direction) (from : ℕ) (to : Option ℕ) (behind : Behind) (before after : S) (old new : Trail) : Type 0 where
  pub reply : Reply
  pub finds : Finds first pages pass turns (op_toward direction from) reply old new
  pub ends : GoesOnWithin direction to (ended_at reply) behind
  pub taken : takes before (rows_before direction to reply) after

-- The scan stops at that part, and nothing of it has gone there.
pub record LeavesPart {S : Type 0} (first : List (Option Page)) (pages pass turns : ℕ) (direction : Direction) (from : ℕ) (to : Option ℕ)
    (lacks : ℕ → Type 0) (fault : ScanFault) (before after : S) (old new : Trail) : Type 0 where
  pub key : left_from fault ≡ from
  pub kept : after ≡ before
  pub stops : StopsAt first pages pass turns direction to lacks fault old new
