-- What a log has of what the handles of a map have done.
use Rattle.std.specs.Prelude.{◌≡◌, ◌⊎◌, ℕ, suc, List, [], ◌∷◌, Option, Result, All, OnOk, length}
use Rattle.std.specs.List.{AllZip}
use Rattle.bl_model.specs.Map.{Map as PlainMap}
use Rattle.bl_claims.specs.Trails.{Trail}
use Rattle.bl_claims.specs.Seeing.{IsLinearizable, AreWithin, GoesOnFrom}
use Rattle.bl_page.specs.declared.page.Page.{Page}
use Rattle.bl_index.specs.Calls.{first_of, passes_of, map_after}
use Rattle.bl_index.specs.Opened.{IsBegun}
use Rattle.bl_index.specs.declared.index.Pass.{Pass}
use Rattle.bl_journal.specs.Files.{LeavesOnly}
use Rattle.bl_journal.specs.Logs.{IsLogOf, KeepsMap}
use Rattle.bl_journal.specs.declared.fault.LogFault.{LogFault}
use Rattle.bl_journal.specs.declared.journal.Journal.{Journal}
use Rattle.bl_map.specs.declared.map.Map.{Map}
use Rattle.bl_map.specs.Handles.{number_of_seat, seen_by}
use Rattle.bl_map.specs.Maps.{IsLoadFault}
use Rattle.bl_map_log.specs.declared.fault.OpenLogFault.{OpenLogFault}
use Rattle.bl_map_log.specs.declared.fault.OpenLogFault.TheVariants as fault
use Rattle.bl_map_log.specs.declared.handle.NotingHandle.{NotingHandle}
use Rattle.bl_map_log.specs.declared.log.MapLog.{MapLog}
use Rattle.bl_map_log.specs.Notes.{HasNoted, IsNotingOf, IsCleared, KeepsNotes, done_in}

-- the file of a log
abbrev pub file_of : {D : Type 0} → MapLog D → D
file_of log = log.journal.device

abbrev pub journal_of : {D : Type 0} → MapLog D → Journal D
journal_of log = log.journal

-- the map after all that a trail tells
abbrev pub map_told : Map → Trail → PlainMap
map_told map seen = map_after (first_of map.index) seen

-- handles of this map, by the numbers of their seats, from that number on
abbrev pub AreFrom : Map → ℕ → List NotingHandle → Type 0
AreFrom map from [] = Unit {0}
AreFrom map from (h ∷ hs) = IsNotingOf map h × (number_of_seat h.handle ≡ from) × AreFrom map (suc from) hs

-- These are the handles of all seats of the map, by the numbers of their seats.
pub record AreAllOf (map : Map) (handles : List NotingHandle) : Type 0 where
  pub count : length handles ≡ passes_of map.index
  pub each : AreFrom map 0 handles

-- All that has happened in the map up to some moment.
pub record IsWhole (map : Map) (whole : Trail) : Type 0 where
  pub legal : IsLinearizable (first_of map.index) whole
  pub within : AreWithin (passes_of map.index) whole

-- Between two commits: the log is that of the map after this trail, all of it on the disk; and what has happened since, by the handles of all
-- seats, is what they have noted.
pub record HasLog {D : Type 0} (seen : D → List ℕ) (moment : D → ℕ) (leaves : D → ℕ → List ℕ → Type 0) (map : Map) (base : Trail)
    (handles : List NotingHandle) (log : MapLog D) : Type 0 where
  pub kept : KeepsMap seen moment leaves (map_told map base) log.journal
  pub whole : IsWhole map base
  pub all : AreAllOf map handles
  pub noted : All (HasNoted base) handles

-- Calls of handles leave a log as it stands to them.
abbrev pub CallsKeepLog : {D : Type 0} → (D → List ℕ) → (D → ℕ) → (D → ℕ → List ℕ → Type 0) → Type 0
CallsKeepLog {D} seen moment leaves = (map : Map) (base : Trail) (olds news : List NotingHandle) (log : MapLog D) → HasLog seen moment leaves map base olds log
    → AllZip KeepsNotes olds news → HasLog seen moment leaves map base news log

-- The trail has what these handles have done by then, and no more of any of them.
pub record HasAllOf (map : Map) (handles : List NotingHandle) (now : Trail) : Type 0 where
  pub whole : IsWhole map now
  pub begins : All (λ h. GoesOnFrom (seen_by h.handle) now) handles
  pub done : All (λ h. done_in now h ≡ done_in (seen_by h.handle) h) handles

-- A commit of what the handles have done since that trail. A crash at any moment of it leaves the log of the map from before that, or of the map
-- after all that they have done by now. If it succeeds, the log is that one, and nothing is noted.
pub record Commits {D : Type 0} (seen : D → List ℕ) (moment : D → ℕ) (leaves : D → ℕ → List ℕ → Type 0) (map : Map) (base : Trail)
    (result : Result (Unit {0}) LogFault) (olds news : List NotingHandle) (old new : MapLog D) : Type 0 where
  pub now : Trail
  pub later : GoesOnFrom base now
  pub all : HasAllOf map olds now
  pub crash : LeavesOnly moment leaves (file_of old) (file_of new) (λ c. IsLogOf c (map_told map base) ⊎ IsLogOf c (map_told map now))
  pub kept : OnOk result (HasLog seen moment leaves map now news new × All IsCleared news)

-- Why no map was opened from a log: it was not read, for all that can be told; or of its rows none was loaded.
abbrev pub IsOpenLogFault : ℕ → ℕ → ℕ → OpenLogFault → Type 0
IsOpenLogFault pages fill among (fault.Log why) = Unit {0}
IsOpenLogFault pages fill among (fault.Map why) = (rows : List (ℕ × ℕ)) × IsLoadFault rows pages fill among why

-- The seats are all of the map, and have seen nothing.
pub record AreNewSeats (map : Map) (seats : List Pass) : Type 0 where
  pub image : List (Option Page)
  pub size : ℕ
  pub among : ℕ
  pub begun : IsBegun image size among map.index seats
