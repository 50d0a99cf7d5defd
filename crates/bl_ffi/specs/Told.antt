-- What a call tells C.
use Rattle.std.specs.Prelude.{◌≡◌, ◌⊎◌, ◌+◌, ◌≤◌, ℕ, ℤ, pos, min, Bool, true, false, Some, None, List, [], ◌∷◌, ◌++◌, map, take, drop, length, MatchOption, MatchBool}
use Rattle.std.specs.Arc.{arc_value}
use Rattle.bl_model.specs.declared.operation.KeyReply.{KeyReply}
use Rattle.bl_model.specs.declared.operation.KeyReply.TheVariants.{Found, Absent, Inserted, Present, Replaced, Deleted, Changed, Differs, NoRoom}
use Rattle.bl_model.specs.declared.operation.Next.{Next}
use Rattle.bl_model.specs.declared.operation.Next.TheVariants.{More, End}
use Rattle.bl_model.specs.declared.operation.Op.{Op}
use Rattle.bl_model.specs.declared.operation.Reply.{Reply}
use Rattle.bl_model.specs.declared.operation.Reply.TheVariants.{Rows}
use Rattle.bl_model.specs.declared.deciding.KeyWrite.{KeyWrite}
use Rattle.bl_model.specs.Replies.{reply_of}
use Rattle.bl_waiting.specs.Queue.{hints_of}
use Rattle.bl_index.specs.Calls.{pages_of, frames_of}
use Rattle.bl_ffi_seats.specs.declared.seat.Seat.{Seat}
use Rattle.bl_ffi_seats.specs.Seats.{IsSameSeat, KeepsUpkeep, HasFound, HasRunOut, HasWritten, HasNotWritten, HasKeptUp, IsDone}
use Rattle.bl_ffi.specs.declared.calls.Row.{Row}
use Rattle.bl_ffi.specs.declared.calls.Part.{Part}
use Rattle.bl_ffi.specs.declared.seat.SeatOfC.{SeatOfC}
use Rattle.bl_ffi.specs.declared.stats.Stats.{Stats}

-- the code of a reply, and the value that is written beside it
abbrev pub IsCodeOf : KeyReply → ℤ → ℕ → Type 0
IsCodeOf (Found value) code written = (code ≡ pos 0) × (written ≡ value)
IsCodeOf Absent code written = code ≡ pos 1
IsCodeOf Inserted code written = code ≡ pos 0
IsCodeOf (Present value) code written = (code ≡ pos 2) × (written ≡ value)
IsCodeOf (Replaced value) code written = (code ≡ pos 2) × (written ≡ value)
IsCodeOf (Deleted value) code written = (code ≡ pos 0) × (written ≡ value)
IsCodeOf Changed code written = code ≡ pos 0
IsCodeOf (Differs value) code written = (code ≡ pos 2) × (written ≡ value)
IsCodeOf NoRoom code written = code ≡ pos 3

-- A call of a closed seat is told so, and the seat stays closed. A call of another one is told what the call has come to, and the seat is
-- the same one then.
abbrev pub Calls : SeatOfC → SeatOfC → ℤ → (Seat → Seat → Type 0) → Type 0
Calls old new code Comes = MatchOption old.seat ((code ≡ pos 9) × (new.seat ≡ None)) (λ s. (t : Seat) × (new.seat ≡ Some t) × IsSameSeat s t × Comes s t)

-- A search. It was answered so; or it ran out of turns, and is to be made again. It loses no upkeep.
abbrev pub TellsFound : Op → SeatOfC → SeatOfC → ℤ → ℕ → Type 0
TellsFound op old new code written = Calls old new code (λ s t. KeepsUpkeep s t
    × (((code ≡ pos 4) × HasRunOut s t) ⊎ ((reply : KeyReply) × IsCodeOf reply code written × HasFound op (reply_of reply) s t)))

-- A write. It was answered so; or it has not been done, and nothing of it is left.
abbrev pub TellsWritten : Op → ℕ → KeyWrite → SeatOfC → SeatOfC → ℤ → ℕ → Type 0
TellsWritten op key write old new code written =
    Calls old new code (λ s t. ((code ≡ pos 4) × HasNotWritten s t) ⊎ ((reply : KeyReply) × IsCodeOf reply code written × HasWritten op key write reply s t))

-- a key and its value, as C has them
abbrev pub row_of : ℕ × ℕ → Row
row_of pair = record { key = pair.0; value = pair.1 }

-- whether the rows go on, and from which key
abbrev pub GoesOnAt : Next → Part → Type 0
GoesOnAt (More key) part = (part.more ≡ true) × (part.next ≡ key)
GoesOnAt End part = part.more ≡ false

-- a reply to a part
abbrev pub IsRows : Reply → Type 0
IsRows (Rows pairs next) = Unit {0}
IsRows other = ⊥

-- Where it goes on of which some rows are left: at the first of them, if there is one.
abbrev pub next_behind : List (ℕ × ℕ) → Next → Next
next_behind [] next = next
next_behind (pair ∷ left) next = More pair.0

-- how many rows of the reply are taken, where there is room for so many
abbrev pub taken_of : List (ℕ × ℕ) → List Row → ℕ
taken_of pairs room = min (length pairs) (length room)

-- As many rows of the reply as fit are the first ones of the array, and the others are as they were. The part says how many there are, and how they
-- go on: at the first one that did not fit, or where the reply does.
abbrev pub IsFilled : Reply → List Row → List Row → Part → Type 0
IsFilled (Rows pairs next) old new part =
    (new ≡ map row_of (take (taken_of pairs.items old) pairs.items) ++ drop (taken_of pairs.items old) old) × (part.count ≡ taken_of pairs.items old)
    × GoesOnAt (next_behind (drop (taken_of pairs.items old) pairs.items) next) part
IsFilled other old new part = ⊥

-- The same of a part of the rows, which are listed.
abbrev pub Lists : Op → List Row → List Row → Part → ℤ → Seat → Seat → Type 0
Lists op rows rows' part code old new = KeepsUpkeep old new
    × (((code ≡ pos 4) × HasRunOut old new) ⊎ ((code ≡ pos 0) × ((reply : Reply) × HasFound op reply old new × IsFilled reply rows rows' part)))

-- It has done upkeep, and the code says whether anything is left to do.
abbrev pub TellsUpkeep : ℕ → SeatOfC → SeatOfC → ℤ → Type 0
TellsUpkeep most old new code = Calls old new code (λ s t. HasKeptUp most s t
    × (((code ≡ pos 0) × IsDone t) ⊎ ((code ≡ pos 4) × (IsDone t → ⊥))))

-- A seat is closed then. The code says whether it was before.
abbrev pub Closes : SeatOfC → SeatOfC → ℤ → Type 0
Closes old new code = MatchOption old.seat (code ≡ pos 9) (λ s. code ≡ pos 0) × (new.seat ≡ None)

-- Nothing is done. The code says whether the seat is closed.
abbrev pub StaysAsItWas : SeatOfC → SeatOfC → ℤ → Type 0
StaysAsItWas old new code = MatchOption old.seat ((code ≡ pos 9) × (new.seat ≡ None)) (λ s. (code ≡ pos 0) × (new.seat ≡ Some s))

abbrev pub waiting_of : Seat → ℕ
waiting_of seat = length (hints_of seat.waiting)

abbrev pub dropped_of : Seat → ℕ
dropped_of seat = seat.waiting.dropped

-- What a look at all pages and frames of its map says. Of how many are free no clause says more.
pub record IsRoomOf (s : Seat) (stats : Stats) : Type 0 where
  pub few_pages : stats.used_pages + stats.free_pages ≤ stats.pages
  pub frames : stats.frames ≡ frames_of (arc_value s.index)
  pub few_frames : stats.free_frames ≤ stats.frames

-- the same of these is said still
abbrev pub KeepsRoom : Stats → Stats → Type 0
KeepsRoom old new = (new.used_pages ≡ old.used_pages) × (new.frames ≡ old.frames) × (new.free_frames ≡ old.free_frames)

-- What is said of a seat and its map by numbers, after a look or without one.
pub record AreStatsOf (look : Bool) (s : Seat) (old new : Stats) : Type 0 where
  pub pages : new.pages ≡ pages_of (arc_value s.index)
  pub waiting : new.waiting ≡ waiting_of s
  pub dropped : new.dropped ≡ dropped_of s
  pub room : MatchBool look (IsRoomOf s new) (KeepsRoom old new)

-- The seat is as it was, and a closed one leaves the numbers as they were.
abbrev pub ShowsStats : Bool → SeatOfC → SeatOfC → Stats → Stats → ℤ → Type 0
ShowsStats look old new stats stats' code = MatchOption old.seat ((code ≡ pos 9) × (new.seat ≡ None) × (stats' ≡ stats))
    (λ s. (code ≡ pos 0) × (new.seat ≡ Some s) × AreStatsOf look s stats stats')
