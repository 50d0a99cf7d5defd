-- What a call of a seat promises: what the map's same call does, or that it is to be made again.
use Rattle.std.specs.Prelude.{◌≡◌, ℕ, List, [], Option, Result}
use Rattle.std.specs.Arc.{arc_value}
use Rattle.bl_model.specs.declared.deciding.KeyWrite.{KeyWrite}
use Rattle.bl_model.specs.declared.operation.KeyReply.{KeyReply}
use Rattle.bl_model.specs.declared.operation.KeyReply.TheVariants as replies
use Rattle.bl_model.specs.declared.operation.Op.{Op}
use Rattle.bl_model.specs.declared.operation.Reply.{Reply}
use Rattle.bl_model.specs.Replies.{reply_of}
use Rattle.bl_page.specs.declared.page.Page.{Page}
use Rattle.bl_proc.specs.declared.parts.Direction.{Direction}
use Rattle.bl_claims.specs.Trails.{Trail}
use Rattle.bl_index_read.specs.Searching.{Finds, RunsOut}
use Rattle.bl_index_range.specs.Ranges.{ReadsRange, StopsRange}
use Rattle.bl_index_range.specs.declared.ranging.RangeFault.{RangeFault}
use Rattle.bl_index.specs.Calls.{first_of, pages_of, IsSamePass, number_of, trail, StaysAlone, AllSwept}
use Rattle.bl_index.specs.Limits.{ScansSome}
use Rattle.bl_index.specs.Meetings.{Meet}
use Rattle.bl_index.specs.declared.scanning.ScanFault.{ScanFault}
use Rattle.bl_map_calls.specs.Works.{Works, Adds, Swept, FoundNoRoom}
use Rattle.bl_map_tries.specs.Tries.{WritesAtOnce, WritesNone, IsRefused, KeepsUp, HasNothingToDo}
use Rattle.bl_ffi_seats.specs.declared.seat.Seat.{Seat}

-- what the index began with
abbrev pub first_of_seat : Seat → List (Option Page)
first_of_seat seat = first_of (arc_value seat.index)

abbrev pub pages_of_seat : Seat → ℕ
pages_of_seat seat = pages_of (arc_value seat.index)

-- the number of its pass, which its entries have
abbrev pub seat_number : Seat → ℕ
seat_number seat = number_of seat.pass

-- all that has happened in the index, up to the seat's own last event
abbrev pub seen_at : Seat → Trail
seen_at seat = trail seat.pass

-- the same seat of the same index
abbrev pub IsSameSeat : Seat → Seat → Type 0
IsSameSeat old new = (new.index ≡ old.index) × IsSamePass old.pass new.pass

-- The same pieces of upkeep wait.
abbrev pub KeepsUpkeep : Seat → Seat → Type 0
KeepsUpkeep old new = new.waiting ≡ old.waiting

-- both are at one index
abbrev pub AreOfOne : Seat → Seat → Type 0
AreOfOne one two = arc_value two.index ≡ arc_value one.index

-- A search was answered so, by as many gets as the index has pages at most.
abbrev pub HasFound : Op → Reply → Seat → Seat → Type 0
HasFound op reply old new = Finds (first_of_seat old) (pages_of_seat old) (seat_number old) (pages_of_seat old) op reply (seen_at old) (seen_at new)

-- It was not, after as many gets. Nothing of it is left.
abbrev pub HasRunOut : Seat → Seat → Type 0
HasRunOut old new = RunsOut (first_of_seat old) (pages_of_seat old) (seat_number old) (pages_of_seat old) (seen_at old) (seen_at new)

-- A range was read, as it was at one moment.
abbrev pub HasRead : ℕ → Option ℕ → List (ℕ × ℕ) → Seat → Seat → Type 0
HasRead from to rows old new =
    ReadsRange (first_of_seat old) (pages_of_seat old) (seat_number old) (pages_of_seat old) from to rows (seen_at old) (seen_at new)

-- It was not, for that reason.
abbrev pub HasStopped : ℕ → Option ℕ → ℕ → RangeFault → Seat → Seat → Type 0
HasStopped from to rounds fault old new =
    StopsRange (first_of_seat old) (pages_of_seat old) (seat_number old) (pages_of_seat old) rounds from to fault (seen_at old) (seen_at new)

-- A scan has listed these rows, so many at most, and tells where the next one begins, or why it has stopped.
abbrev pub HasListed : Direction → ℕ → Option ℕ → ℕ → ℕ → Result (Option ℕ) ScanFault → List (ℕ × ℕ) → Seat → Seat → Type 0
HasListed direction from to most room result rows old new =
    ScansSome (first_of_seat old) (pages_of_seat old) (seat_number old) (pages_of_seat old) direction from to most room result [] rows (seen_at old) (seen_at new)

-- A write was answered so, as the same call of the map. Where there was no room, what it wanted is what the pass was refused last.
pub record HasWritten (op : Op) (key : ℕ) (write : KeyWrite) (reply : KeyReply) (old new : Seat) : Type 0 where
  pub works : Works (first_of_seat old) (seat_number old) op (reply_of reply) (seen_at old) (seen_at new)
  pub writes : WritesAtOnce (first_of_seat old) (seat_number old) op (reply_of reply) old.waiting new.waiting (seen_at old) (seen_at new)
  pub no_room : reply ≡ replies.NoRoom → FoundNoRoom key write old.pass new.pass

-- It has not been done, and nothing of it is left: the seat has added no entry, and a seat that is alone has the map as it was. It looked for
-- room, and then it was refused, or gave up.
pub record HasNotWritten (old new : Seat) : Type 0 where
  pub adds : Adds (first_of_seat old) (seat_number old) (seen_at old) (seen_at new)
  pub alone : StaysAlone (first_of_seat old) (arc_value old.index) (seen_at old) (seen_at new)
  pub none : WritesNone (first_of_seat old) (seat_number old) (IsRefused old.walk new.walk) old.waiting new.waiting (seen_at old) (seen_at new)

-- Upkeep was done, so many pieces of it, and then the seat has given back what was swapped out.
pub record HasKeptUp (most : ℕ) (old new : Seat) : Type 0 where
  pub mid : Trail
  pub keeps : KeepsUp (first_of_seat old) (pages_of_seat old) (seat_number old) most old.waiting new.waiting old.walk new.walk (seen_at old) mid
  pub sweeps : Swept (first_of_seat old) (seat_number old) mid (seen_at new)
  pub swept : AllSwept new.pass

-- Nothing is left to do.
abbrev pub IsDone : Seat → Type 0
IsDone seat = HasNothingToDo seat.walk seat.waiting

-- Two seats have met: both have seen one trail, which the index may have. It begins with what each of them had seen, and has no further
-- entry of either.
abbrev pub HaveMet : Seat → Seat → Seat → Seat → Type 0
HaveMet one two one' two' = Meet (first_of_seat one) (seat_number one) (seat_number two) (seen_at one) (seen_at two) (seen_at one') (seen_at two')
