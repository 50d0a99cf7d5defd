-- What is written for what is read.
use Rattle.std.specs.Prelude.{◌≡◌, ◌≢◌, ◌==◌, ◌⊎◌, ℕ, ◌+◌, ◌-◌, ◌<◌, ◌≤◌, suc, Bool, false, filter, List, [], ◌∷◌, ◌++◌, All, flat_map, map, length, sum_by, count_by}
use Rattle.bl_model.specs.declared.operation.Entry.{Entry}
use Rattle.bl_model.specs.declared.operation.Op.{Op}
use Rattle.bl_model.specs.declared.operation.Op.TheVariants.{Find, Insert, Put, Delete, Change, Part, PartDown}
use Rattle.bl_model.specs.Map.{Map}
use Rattle.bl_model.specs.History.{IsLegalFrom}
use Rattle.bl_serve_lines.specs.declared.serving.Sectioning.{Sectioning}
use Rattle.bl_serve_lines.specs.declared.serving.Sectioning.TheVariants.{BySync, AtMost}
use Rattle.bl_serve_lines.specs.declared.serving.ServeFault.{ServeFault}
use Rattle.bl_serve_lines.specs.declared.serving.ServeFault.TheVariants.{Read, Write, Memory, Lost}
use Rattle.bl_serve_lines.specs.declared.serving.Totals.{Totals}
use Rattle.bl_serve_lines.specs.Lines.{Line, IsLine, HasNoLf, Answer, Synced, Malformed, entries, input_of, output_of, text_of}

-- The history takes the entries of the lists: at each step the first one that a list still has, until none has any.
pub data Interleaves : List (List Entry) → List Entry → Type 0 where
  Done : (lists : List (List Entry)) → All (λ list. list ≡ []) lists → Interleaves lists []
  Takes : (before : List (List Entry)) (e : Entry) (list : List Entry) (after : List (List Entry)) (history : List Entry)
      → Interleaves (before ++ list ∷ after) history → Interleaves (before ++ (e ∷ list) ∷ after) (e ∷ history)

-- the operation is on that key alone
abbrev pub is_on : ℕ → Op → Bool
is_on key (Find k) = k == key
is_on key (Insert k value) = k == key
is_on key (Put k value) = k == key
is_on key (Delete k) = k == key
is_on key (Change k old new) = k == key
is_on key (Part from) = false
is_on key (PartDown from) = false

-- the operations on that key, in their order
abbrev pub on_key : ℕ → List Entry → List Entry
on_key key history = filter (λ e. is_on key e.op) history

-- a section: its lines, and its part of the history
pub record Section : Type 0 where
  pub lines : List Line
  pub history : List Entry

-- The history has the entries of the lines, those of a line in their order; and the operations on one key are in it in the order of the lines.
pub record IsSection (pages : ℕ × ℕ) (section : Section) : Type 0 where
  pub lines : All (IsLine pages) section.lines
  pub history : Interleaves (map (λ line. entries line.answer) section.lines) section.history
  pub order : (key : ℕ) → on_key key section.history ≡ on_key key (flat_map (λ line. entries line.answer) section.lines)

-- a line with that answer, the last one of so many in a section, ends it: a sync does, and the last one of as many as there may be
abbrev pub Ends : Sectioning → ℕ → Answer → Type 0
Ends BySync count answer = answer ≡ Synced
Ends (AtMost most) count answer = (answer ≡ Synced) ⊎ (most ≤ count)

-- so many lines of a section are fewer than there may be
abbrev pub IsShort : Sectioning → ℕ → Type 0
IsShort BySync count = Unit {0}
IsShort (AtMost most) count = count ≤ most - 1

-- which lines end a section behind so many lines of it
abbrev pub after_lines : Sectioning → ℕ → Sectioning
after_lines BySync count = BySync
after_lines (AtMost most) count = AtMost (most - count)

-- none of the lines ends a section
abbrev pub HasNoEnd : Sectioning → List Line → Type 0
HasNoEnd how lines = All (λ line. line.answer ≢ Synced) lines × IsShort how (length lines)

-- none of the lines before the last one does
abbrev pub HasNoEndInside : Sectioning → List Line → Type 0
HasNoEndInside how lines = (front : List Line) (end : Line) → lines ≡ front ++ end ∷ [] → HasNoEnd how front

-- a section that has ended: its last line, and no other, ends one
pub record IsFinished (how : Sectioning) (pages : ℕ × ℕ) (section : Section) : Type 0 where
  pub front : List Line
  pub end : Line
  pub lines : section.lines ≡ front ++ end ∷ []
  pub last : Ends how (length section.lines) end.answer
  pub no_end : HasNoEnd how front
  pub whole : IsSection pages section

abbrev pub lines_of : List Section → List Line
lines_of sections = flat_map (λ section. section.lines) sections

abbrev pub history_of : List Section → List Entry
history_of sections = flat_map (λ section. section.history) sections

-- one for a line that spells no request
abbrev pub malformed_of : Answer → ℕ
malformed_of Malformed = 1
malformed_of answer = 0

-- one for a sync
abbrev pub syncs_of : Answer → ℕ
syncs_of Synced = 1
syncs_of answer = 0

-- one where there are bytes after the last LF
abbrev pub one_if_any : List ℕ → ℕ
one_if_any [] = 0
one_if_any (b ∷ bytes) = 1

-- From the map at the start, by an index that has so many pages at least and so many at most: the input is finished sections, an open one and
-- bytes after the last LF; the history is legal, with all entries of a section before those of the next; the output is one line for each
-- line of the input, by number; the totals count lines, those that are malformed, and syncs.
pub record Served (how : Sectioning) (pages : ℕ × ℕ) (start : Map) (input output : List ℕ) (totals : Totals) : Type 0 where
  pub sections : List Section
  pub last : Section
  pub rest : List ℕ
  pub each : All (IsFinished how pages) sections
  pub whole : IsSection pages last
  pub no_end : HasNoEnd how last.lines
  pub cut : HasNoLf rest
  pub legal : IsLegalFrom start (history_of sections ++ last.history)
  pub read : input ≡ input_of (lines_of sections ++ last.lines) ++ rest
  pub written : output ≡ text_of 1 (lines_of sections ++ last.lines) rest
  pub requests : totals.requests ≡ length (lines_of sections ++ last.lines) + one_if_any rest
  pub malformed : totals.malformed ≡ sum_by (λ line. malformed_of line.answer) (lines_of sections ++ last.lines) + one_if_any rest
  pub syncs : totals.sections ≡ sum_by (λ line. syncs_of line.answer) (lines_of sections ++ last.lines)

-- how many lines of these bytes have their LF
abbrev pub whole_lines : List ℕ → ℕ
whole_lines bytes = count_by (λ b. b == 10) bytes

-- what a fault leaves of the lines behind so many in finished sections: how much of their output may be out, what was read
-- ahead of them, and which lines they are. A line that was lost is one of those that were read ahead.
abbrev pub Leaves : Sectioning → ServeFault → ℕ → List ℕ → List ℕ → List Line → Type 0
Leaves how Read done begun ahead lines = (begun ≡ []) × (ahead ≡ []) × HasNoEnd how lines
Leaves how Write done begun ahead lines = Unit {0}
Leaves how Memory done begun ahead lines = begun ≡ []
Leaves how (Lost number) done begun ahead lines = (begun ≡ []) × (done < number) × (number ≤ done + whole_lines ahead)

-- The server stopped by the fault: the output is one line for each line of the finished sections, by number, and no
-- others but, after a failed write, a beginning of the output of the lines behind them. ahead was read and not cut.
pub record Stopped (how : Sectioning) (pages : ℕ × ℕ) (start : Map) (input output : List ℕ) (fault : ServeFault) : Type 0 where
  pub sections : List Section
  pub last : Section
  pub rest : List ℕ
  pub ahead : List ℕ
  pub begun : List ℕ
  pub unwritten : List ℕ
  pub each : All (IsFinished how pages) sections
  pub whole : IsSection pages last
  pub open_lines : HasNoEndInside how last.lines
  pub cut : HasNoLf rest
  pub legal : IsLegalFrom start (history_of sections ++ last.history)
  pub read : input ≡ input_of (lines_of sections ++ last.lines) ++ rest ++ ahead
  pub open_output : text_of (suc (length (lines_of sections))) last.lines rest ≡ begun ++ unwritten
  pub written : output ≡ output_of 1 (lines_of sections) ++ begun
  pub leaves : Leaves how fault (length (lines_of sections)) begun ahead last.lines

-- the entries of a served input, in the order of its history
abbrev pub whole_history : {how : Sectioning} {pages : ℕ × ℕ} {start : Map} {input output : List ℕ} {totals : Totals} → Served how pages start input output totals → List Entry
whole_history served = history_of served.sections ++ served.last.history

-- the entries of lines, one line after another
abbrev pub entries_in : List Line → List Entry
entries_in lines = flat_map (λ line. entries line.answer) lines

-- Where each line is a section, the history has the entries of the lines in their order.
abbrev pub LinesAloneKeepOrder : Type 0
LinesAloneKeepOrder = (pages : ℕ × ℕ) (start : Map) (input output : List ℕ) (totals : Totals) (s : Served (AtMost 1) pages start input output totals)
    → whole_history s ≡ entries_in (lines_of s.sections ++ s.last.lines)

-- a read fault comes only from a reader that has failed, and a write fault from such a writer
abbrev pub ComesFrom : ServeFault → Type 0 → Type 0 → Type 0
ComesFrom Read reader_failed writer_failed = reader_failed
ComesFrom Write reader_failed writer_failed = writer_failed
ComesFrom Memory reader_failed writer_failed = Unit {0}
ComesFrom (Lost number) reader_failed writer_failed = Unit {0}

-- The server stopped by the fault, as far as its input and its output go, and with its reason.
abbrev pub Stops : Sectioning → ℕ × ℕ → Map → List ℕ → List ℕ → ServeFault → Type 0 → Type 0 → Type 0
Stops how pages start input output fault reader_failed writer_failed =
    Stopped how pages start input output fault × ComesFrom fault reader_failed writer_failed
