-- What a call of a handle promises.
use Rattle.std.specs.Prelude.{◌≡◌, ℕ, List, Option, Result, length, map}
use Rattle.bl_model.specs.declared.deciding.KeyWrite.{KeyWrite}
use Rattle.bl_model.specs.declared.operation.KeyReply.{KeyReply}
use Rattle.bl_model.specs.declared.operation.Op.{Op}
use Rattle.bl_model.specs.declared.operation.Reply.{Reply}
use Rattle.bl_page.specs.declared.page.Page.{Page}
use Rattle.bl_proc.specs.declared.parts.Direction.TheVariants.{Up, Down}
use Rattle.bl_claims.specs.Trails.{Trail}
use Rattle.bl_index.specs.Calls.{first_of, pages_of, frames_of, IsPassOf, IsSamePass, number_of, trail, released_by, AllSwept, SweptOnce}
use Rattle.bl_index.specs.Meetings.{Meet}
use Rattle.bl_index.specs.declared.index.Index.{Index}
use Rattle.bl_index.specs.declared.index.Pass.{Pass}
use Rattle.bl_answers.specs.declared.answers.Hint.{Hint}
use Rattle.bl_check.specs.declared.quiet.Quiet.{Quiet}
use Rattle.bl_load.specs.declared.fault.LoadFault.{LoadFault}
use Rattle.bl_map.specs.declared.handle.Handle.{Handle}
use Rattle.bl_map_calls.specs.declared.upkeep.Followed.{Followed}
use Rattle.bl_map_calls.specs.Works.{Works, Adds, Searched, Swept, FoundNoRoom}
use Rattle.bl_map_calls.specs.Finds.{FindsMany}
use Rattle.bl_map_calls.specs.Leasts.{FindsFirst, CountsRows}
use Rattle.bl_map_calls.specs.Many.{WritesMany, StopsFull}
use Rattle.bl_map_calls.specs.Follows.{FollowsHint, WritesLeaving}
use Rattle.bl_map_calls.specs.Copies.{Copies}
use Rattle.bl_map_calls.specs.Ranges.{Ranged, CountsRange}
use Rattle.bl_map_calls.specs.declared.ranging.RangeRefusal.{RangeRefusal}
use Rattle.bl_map_calls.specs.Updates.{Updates}
use Rattle.bl_map_calls.specs.declared.updating.Updated.{Updated}
use Rattle.bl_map_calls.specs.Waits.{WritesKey, TriesAgain, Tidies}
use Rattle.bl_waiting.specs.Queue.{hints_of, IsNone}

-- the index that a handle works on: that of its map
abbrev pub index_of : Handle → Index
index_of handle = handle.index.now

-- what the map began with
abbrev pub first_map_of : Handle → List (Option Page)
first_map_of handle = first_of (index_of handle)

-- how many pages the map has
abbrev pub pages_of_map : Handle → ℕ
pages_of_map handle = pages_of (index_of handle)

abbrev pub frames_of_map : Handle → ℕ
frames_of_map handle = frames_of (index_of handle)

-- all that has happened in the map, up to the handle's own last event
abbrev pub seen_by : Handle → Trail
seen_by handle = trail handle.pass

-- the number of its seat, which its entries have
abbrev pub number_of_seat : Handle → ℕ
number_of_seat handle = number_of handle.pass

-- how many pages and frames sweeps of it have released
abbrev pub released_in : Handle → ℕ
released_in handle = released_by handle.pass

-- both are of one map
abbrev pub AreOfOne : Handle → Handle → Type 0
AreOfOne one two = IsPassOf (index_of one) two.pass

-- The same handle of the same map
abbrev pub IsSameHandle : Handle → Handle → Type 0
IsSameHandle old new = (new.index ≡ old.index) × IsSamePass old.pass new.pass

-- The handle has made this call, with this reply, and no other.
abbrev pub HasCalled : Op → Reply → Handle → Handle → Type 0
HasCalled op reply old new = Works (first_map_of old) (number_of_seat old) op reply (seen_by old) (seen_by new)

-- It has done nothing but search: searches that ran out of turns, and then one that was answered so.
abbrev pub HasOnlySearched : Op → Reply → Handle → Handle → Type 0
HasOnlySearched op reply old new = Searched (first_map_of old) (pages_of_map old) (number_of_seat old) op reply (seen_by old) (seen_by new)

-- It has looked these keys up, one after another, each with its reply, and has done nothing but search.
abbrev pub HasFoundMany : List ℕ → List KeyReply → Handle → Handle → Type 0
HasFoundMany keys replies old new = FindsMany (first_map_of old) (pages_of_map old) (number_of_seat old) keys replies (seen_by old) (seen_by new)

-- It has looked for the least row from a key on.
abbrev pub HasFoundLeast : ℕ → Option (ℕ × ℕ) → Handle → Handle → Type 0
HasFoundLeast from answer old new = FindsFirst (first_map_of old) (pages_of_map old) (number_of_seat old) Up from answer (seen_by old) (seen_by new)

-- It has looked for the greatest row up to a key.
abbrev pub HasFoundGreatest : ℕ → Option (ℕ × ℕ) → Handle → Handle → Type 0
HasFoundGreatest from answer old new = FindsFirst (first_map_of old) (pages_of_map old) (number_of_seat old) Down from answer (seen_by old) (seen_by new)

-- It has counted the rows from a key on up to an end, or to that of the map.
abbrev pub HasCounted : ℕ → Option ℕ → ℕ → Handle → Handle → Type 0
HasCounted from to answer old new = CountsRows (first_map_of old) (pages_of_map old) (number_of_seat old) from to answer (seen_by old) (seen_by new)

-- It has read a range, as it was at one moment.
abbrev pub HasRanged : ℕ → Option ℕ → ℕ → Result ℕ RangeRefusal → List (ℕ × ℕ) → List (ℕ × ℕ) → Handle → Handle → Type 0
HasRanged from to rounds result before after old new =
    Ranged (first_map_of old) (pages_of_map old) (number_of_seat old) from to rounds result before after (seen_by old) (seen_by new)

-- It has counted the rows of a range, as it was at one moment.
abbrev pub HasCountedRange : ℕ → Option ℕ → ℕ → Result ℕ RangeRefusal → Handle → Handle → Type 0
HasCountedRange from to rounds result old new =
    CountsRange (first_map_of old) (pages_of_map old) (number_of_seat old) from to rounds result (seen_by old) (seen_by new)

-- It has scanned the whole map, and copied the rows that it met.
abbrev pub HasCopied : ℕ → Result Quiet LoadFault → Handle → Handle → Type 0
HasCopied fill result old new = Copies (first_map_of old) (pages_of_map old) (number_of_seat old) fill result (seen_by old) (seen_by new)

-- It has written a key, and listed the pages that were split. What is left to do then is left.
abbrev pub HasWritten : Op → Reply → Option Hint → Handle → Handle → Type 0
HasWritten op reply left old new = WritesLeaving (first_map_of old) (number_of_seat old) op reply left (seen_by old) (seen_by new)

-- The last that it has done is a call of the index that writes the key so, and that found no room.
abbrev pub HasFoundNoRoom : ℕ → KeyWrite → Handle → Handle → Type 0
HasFoundNoRoom key does old new = FoundNoRoom key does old.pass new.pass

-- It has made the writes that these ask for, one after another, each with its reply.
abbrev pub HasWrittenMany : {A : Type 0} → (A → ℕ × KeyWrite) → List A → List KeyReply → Handle → Handle → Type 0
HasWrittenMany ask list replies old new =
    WritesMany (first_map_of old) (number_of_seat old) ask list replies old.waiting new.waiting (seen_by old) (seen_by new)

-- So many of them were answered, the last one by want of room.
abbrev pub HasStoppedFull : {A : Type 0} → (A → ℕ × KeyWrite) → List A → List KeyReply → ℕ → Handle → Handle → Type 0
HasStoppedFull ask list replies count old new = StopsFull ask list replies count old.pass new.pass

-- It has looked a key up, and has changed its row by what the function gave for the value that the row had, or has not.
abbrev pub HasUpdated : {F : Type 0} → (F → ℕ → ℕ → F → Type 0) → ℕ → Updated → F → F → Handle → Handle → Type 0
HasUpdated gives key answer f g old new =
    Updates gives (first_map_of old) (pages_of_map old) (number_of_seat old) key answer f g old.waiting new.waiting (seen_by old) (seen_by new)

-- It has followed a hint.
abbrev pub HasFollowed : Hint → Followed → Handle → Handle → Type 0
HasFollowed hint result old new = FollowsHint (first_map_of old) (number_of_seat old) hint result (seen_by old) (seen_by new)

-- It has swept, as often as it may be.
abbrev pub HasSwept : Handle → Handle → Type 0
HasSwept old new = Swept (first_map_of old) (number_of_seat old) (seen_by old) (seen_by new)

-- No frame that it has retired came after its last sweep.
abbrev pub NoneUnswept : Handle → Type 0
NoneUnswept handle = AllSwept handle.pass

-- It has swept once more, and has retired no frame since.
abbrev pub HasSweptAgain : Handle → Handle → Type 0
HasSweptAgain old new = SweptOnce old.pass new.pass

-- The handle has made no call.
abbrev pub HasKeptUp : Handle → Handle → Type 0
HasKeptUp old new = Adds (first_map_of old) (number_of_seat old) (seen_by old) (seen_by new)

-- Two handles have met: both have seen one trail, which the map may have. It begins with what each of them had seen, and has no further
-- entry of either.
abbrev pub HaveMet : Handle → Handle → Handle → Handle → Type 0
HaveMet old_one old_two new_one new_two =
    Meet (first_map_of old_one) (number_of_seat old_one) (number_of_seat old_two) (seen_by old_one) (seen_by old_two) (seen_by new_one) (seen_by new_two)

-- the seat that a handle worked from
abbrev pub seat_of : Handle → Pass
seat_of handle = handle.pass

abbrev pub seats_of : List Handle → List Pass
seats_of handles = map seat_of handles

-- how many hints wait, and how many were dropped since 32 waited
abbrev pub waiting_of : Handle → ℕ
waiting_of handle = length (hints_of handle.waiting)

abbrev pub dropped_of : Handle → ℕ
dropped_of handle = handle.waiting.dropped

-- The same hints wait.
abbrev pub KeepsHints : Handle → Handle → Type 0
KeepsHints old new = new.waiting ≡ old.waiting

-- A key was written, and what that left to do is done or kept.
abbrev pub HasChanged : Op → Reply → Handle → Handle → Type 0
HasChanged op reply old new = WritesKey (first_map_of old) (number_of_seat old) op reply old.waiting new.waiting (seen_by old) (seen_by new)

-- Hints that wait were tried, so many at most, and what is left of them is kept.
abbrev pub HasTriedAgain : ℕ → Handle → Handle → Type 0
HasTriedAgain most old new = TriesAgain (first_map_of old) (number_of_seat old) most old.waiting new.waiting (seen_by old) (seen_by new)

-- Hints that wait were tried, and others were followed.
abbrev pub HasTidied : Handle → Handle → Type 0
HasTidied old new = Tidies (first_map_of old) (number_of_seat old) old.waiting new.waiting (seen_by old) (seen_by new)

-- The handle works on this index from that seat, and has nothing to keep up.
abbrev pub IsHandleOver : Index → Pass → Handle → Type 0
IsHandleOver index seat handle = (index_of handle ≡ index) × (handle.pass ≡ seat) × IsNone handle.waiting
