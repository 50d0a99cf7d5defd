-- What stamps tell, and the order of calls that follows.
use Rattle.std.specs.Prelude.{◌≡◌, ℕ, ◌++◌, List, Option, ◌∷◌}
use Rattle.bl_model.specs.declared.operation.Entry.{Entry}
use Rattle.bl_model.specs.declared.operation.Op.{Op}
use Rattle.bl_model.specs.declared.operation.Reply.{Reply}
use Rattle.bl_page.specs.declared.page.Page.{Page}
use Rattle.bl_claims.specs.Trails.{Trail, history_of}
use Rattle.bl_claims.specs.Seeing.{GoesOnFrom}
use Rattle.bl_index.specs.Calls.{IsPassOf, IsSamePass, trail}
use Rattle.bl_index.specs.declared.index.Index.{Index}
use Rattle.bl_index.specs.declared.index.Pass.{Pass}
use Rattle.bl_map.specs.declared.handle.Handle.{Handle}
use Rattle.bl_map.specs.declared.map.Map.{Map}
use Rattle.bl_map.specs.declared.stamping.Stamp.{Stamp}
use Rattle.bl_map.specs.Handles.{index_of, seen_by}
use Rattle.bl_map_calls.specs.Works.{Works}

-- all that has happened in the map, up to the last event that the stamp tells of
abbrev pub told_by : Stamp → Trail
told_by stamp = trail stamp.pass

-- the seat that a stamp worked from
abbrev pub stamped_seat : Stamp → Pass
stamped_seat stamp = stamp.pass

-- The stamp is one of this index, and works from that seat.
abbrev pub IsStampOver : Index → Pass → Stamp → Type 0
IsStampOver index seat stamp = (stamp.index.now ≡ index) × (stamp.pass ≡ seat)

-- The same of a map.
abbrev pub IsNewStamp : Map → Pass → Stamp → Type 0
IsNewStamp map seat stamp = IsStampOver map.index seat stamp

-- Handle and stamp are of one map.
abbrev pub IsOfOneMap : Handle → Stamp → Type 0
IsOfOneMap handle stamp = IsPassOf (index_of handle) stamp.pass

-- the same stamp of the same map
abbrev pub IsSameStamp : Stamp → Stamp → Type 0
IsSameStamp old new = (new.index ≡ old.index) × IsSamePass old.pass new.pass

-- It tells what it told, and no more.
abbrev pub KeepsStamp : Stamp → Stamp → Type 0
KeepsStamp old new = IsSameStamp old new × (told_by new ≡ told_by old)

-- The stamp tells all that the handle has seen, and all that it told before.
pub record HasStamped (handle : Handle) (old new : Stamp) : Type 0 where
  pub same : IsSameStamp old new
  pub tells : GoesOnFrom (seen_by handle) (told_by new)
  pub told : GoesOnFrom (told_by old) (told_by new)

-- The handle has seen all that the stamp tells, and all that it had seen.
pub record HasHeeded (stamp : Stamp) (old new : Handle) : Type 0 where
  pub heeds : GoesOnFrom (told_by stamp) (seen_by new)
  pub seen : GoesOnFrom (seen_by old) (seen_by new)

-- The one entry stands before the other one.
pub record StandInOrder (one two : Entry) (history : List Entry) : Type 0 where
  pub before : List Entry
  pub between : List Entry
  pub after : List Entry
  pub is : history ≡ before ++ one ∷ (between ++ two ∷ after)

-- A call whose trail a stamp tells, and a call of a handle that had heeded it by then: what this one has seen has both in this order.
abbrev pub StampsKeepOrder : Type 0
StampsKeepOrder = (first : List (Option Page)) (one two : ℕ) (op op' : Op) (reply reply' : Reply) (old new told heeded last : Trail)
    → Works first one op reply old new → GoesOnFrom new told → GoesOnFrom told heeded → Works first two op' reply' heeded last
    → StandInOrder (record { pass = one; op = op; reply = reply }) (record { pass = two; op = op'; reply = reply' }) (history_of last)
