-- What a handle has noted.
use Rattle.std.specs.Prelude.{◌≡◌, ℕ, ◌++◌, List, [], map}
use Rattle.bl_model.specs.declared.operation.Op.{Op}
use Rattle.bl_model.specs.declared.operation.Reply.{Reply}
use Rattle.bl_model.specs.declared.operation.Entry.{Entry}
use Rattle.bl_changes.specs.Changes.{came_of, went_of, all_came, all_went}
use Rattle.bl_claims.specs.Trails.{Trail}
use Rattle.bl_claims.specs.Seeing.{IsLinearizable, own, GoesOnFrom}
use Rattle.bl_index.specs.declared.index.Pass.{Pass}
use Rattle.bl_map.specs.declared.handle.Handle.{Handle}
use Rattle.bl_map.specs.declared.map.Map.{Map}
use Rattle.bl_map.specs.Handles.{IsSameHandle, first_map_of, number_of_seat, seat_of, seen_by}
use Rattle.bl_map.specs.Maps.{IsHandleOf, IsNewHandle}
use Rattle.bl_map_log.specs.declared.handle.NotingHandle.{NotingHandle}

-- the handle of the map
abbrev pub handle_of : NotingHandle → Handle
handle_of noting = noting.handle

-- the rows that it has noted as come, and those as gone
abbrev pub came_noted : NotingHandle → List (ℕ × ℕ)
came_noted noting = noting.changes.came.items

abbrev pub went_noted : NotingHandle → List (ℕ × ℕ)
went_noted noting = noting.changes.went.items

-- what the handle has done, by that trail
abbrev pub done_in : Trail → NotingHandle → List Entry
done_in seen noting = own (number_of_seat noting.handle) seen

-- It has seen all of that trail. The rows that came and those that went by what it has done since are those that it has noted.
pub record HasNoted (base : Trail) (noting : NotingHandle) : Type 0 where
  pub begins : GoesOnFrom base (seen_by noting.handle)
  pub legal : IsLinearizable (first_map_of noting.handle) (seen_by noting.handle)
  pub came : all_came (done_in (seen_by noting.handle) noting) ≡ all_came (done_in base noting) ++ came_noted noting
  pub went : all_went (done_in (seen_by noting.handle) noting) ≡ all_went (done_in base noting) ++ went_noted noting

-- The same handle has noted what it has done since any trail, if it had noted what it had done.
pub record KeepsNotes (old new : NotingHandle) : Type 0 where
  pub same : IsSameHandle old.handle new.handle
  pub still : (base : Trail) → HasNoted base old → HasNoted base new

-- The rows that came and went by an operation that was answered so stand behind those that it had noted.
pub record NotesReply (op : Op) (reply : Reply) (old new : NotingHandle) : Type 0 where
  pub came : came_noted new ≡ came_noted old ++ came_of op reply
  pub went : went_noted new ≡ went_noted old ++ went_of op reply

-- It has noted no more.
pub record NotesNone (old new : NotingHandle) : Type 0 where
  pub came : came_noted new ≡ came_noted old
  pub went : went_noted new ≡ went_noted old

-- the seats that handles work from
abbrev pub seats_under : List NotingHandle → List Pass
seats_under notings = map (λ noting. seat_of noting.handle) notings

-- It has noted nothing.
pub record IsCleared (noting : NotingHandle) : Type 0 where
  pub came : came_noted noting ≡ []
  pub went : went_noted noting ≡ []

-- The same handle has noted nothing.
abbrev pub IsClearedOf : NotingHandle → NotingHandle → Type 0
IsClearedOf old new = (new.handle ≡ old.handle) × IsCleared new

-- the handle is one of this map
abbrev pub IsNotingOf : Map → NotingHandle → Type 0
IsNotingOf map noting = IsHandleOf map noting.handle

-- It is one of this map, works from that seat, and has noted nothing.
abbrev pub IsNewNoting : Map → Pass → NotingHandle → Type 0
IsNewNoting map seat noting = IsNewHandle map seat noting.handle × IsCleared noting
