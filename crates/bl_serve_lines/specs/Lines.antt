-- Lines of the input, their answers, and the lines of the output.
use Rattle.std.specs.Prelude.{◌≡◌, ◌≢◌, ℕ, suc, ◌+◌, ◌%◌, ◌^◌, ◌≤◌, Bool, true, false, Option, Some, None, List, [], ◌∷◌, ◌++◌, All, length, flat_map, codes, decimal, MatchOption}
use Rattle.bl_model.specs.declared.operation.Op.{Op}
use Rattle.bl_model.specs.declared.operation.Op.TheVariants.{Find, Change}
use Rattle.bl_model.specs.declared.operation.Reply.{Reply}
use Rattle.bl_model.specs.declared.operation.Reply.TheVariants.{Found, Replaced, Changed, Differs}
use Rattle.bl_model.specs.Parts.{rows_of}
use Rattle.bl_model.specs.declared.operation.Entry.{Entry}
use Rattle.bl_serve_lines.specs.declared.listing.Listing.{Listing}
use Rattle.bl_serve_lines.specs.declared.listing.Listing.TheVariants.{ScanFrom}
use Rattle.bl_serve_lines.specs.declared.request.Request.TheVariants.{Ask, Add, Scan, Save, Stat, Sync}
use Rattle.bl_serve_lines.specs.Scans.{AreParts, rows_before, scan_of, told_text}
use Rattle.bl_serve_lines.specs.Text.{Spells, IsMalformed, reply_text, room_text, numbered}

-- what a line is answered: an operation's entry; an addition's key, its number, its entries in order and its reply; the rows that were asked
-- for, and the scan's parts in order; the parts of a scan of all rows, and whether these went into a file; how many pages the index has, how many are in use, and how many may be taken; that a section ended; that
-- it spells no request
pub data Answer : Type 0 where
  Replied : Entry → Answer
  Added : ℕ → ℕ → List Entry → Reply → Answer
  Scanned : Listing → List Entry → Answer
  Saved : List Entry → Bool → Answer
  Stated : ℕ → ℕ → ℕ → Answer
  Synced : Answer
  Malformed : Answer

-- a line of the input, without its LF, and its answer
pub record Line : Type 0 where
  pub bytes : List ℕ
  pub answer : Answer

-- no LF is among the bytes
abbrev pub HasNoLf : List ℕ → Type 0
HasNoLf bytes = All (λ b. b ≢ 10) bytes

-- what an addition asks of its key: the value, and where one was seen last, that it change from there to the sum, modulo 2^64
abbrev pub addition : ℕ → ℕ → Option ℕ → Op
addition key number None = Find key
addition key number (Some value) = Change key value ((value + number) % 2 ^ 64)

-- the value that the reply says the key has, if it says one
abbrev pub value_in : Reply → Option ℕ
value_in (Found value) = Some value
value_in (Differs value) = Some value
value_in reply = None

-- the reply to an addition whose last entry has this one: a change of the value that was seen is told as a put is
abbrev pub sum_reply : Option ℕ → Reply → Reply
sum_reply (Some value) Changed = Replaced value
sum_reply seen reply = reply

-- The entries of an addition behind the value that was seen last, and its reply: each asks so, and all but the last one saw a value.
abbrev pub Adds : ℕ → ℕ → Option ℕ → List Entry → Reply → Type 0
Adds key number seen [] reply = ⊥
Adds key number seen (e ∷ es) reply = (e.op ≡ addition key number seen)
    × MatchOption (value_in e.reply) ((es ≡ []) × (reply ≡ sum_reply seen e.reply)) (λ value. Adds key number (Some value) es reply)

-- These are all pages, pages in use and pages that may be taken of an index that has so many pages at least, and so many at most.
abbrev pub IsRoom : ℕ × ℕ → ℕ → ℕ → ℕ → Type 0
IsRoom pages all used free = (pages.0 ≤ all) × (all ≤ pages.1) × (used + free ≤ all)

-- The answer is of the line's kind, where the index has so many pages.
abbrev pub Fits : ℕ × ℕ → List ℕ → Answer → Type 0
Fits pages bytes (Replied entry) = Spells bytes (Ask entry.op)
Fits pages bytes (Added key number es reply) = Spells bytes (Add key number) × Adds key number None es reply
Fits pages bytes (Scanned asked parts) = Spells bytes (Scan asked) × AreParts (scan_of asked) parts
Fits pages bytes (Saved parts done) = Spells bytes Save × AreParts (scan_of (ScanFrom 0 None)) parts
Fits pages bytes (Stated all used free) = Spells bytes Stat × IsRoom pages all used free
Fits pages bytes Synced = Spells bytes Sync
Fits pages bytes Malformed = IsMalformed bytes

pub record IsLine (pages : ℕ × ℕ) (line : Line) : Type 0 where
  pub cut : HasNoLf line.bytes
  pub fits : Fits pages line.bytes line.answer

-- the entries that an answer has in the history
abbrev pub entries : Answer → List Entry
entries (Replied entry) = entry ∷ []
entries (Added key number es reply) = es
entries (Scanned asked parts) = parts
entries (Saved parts done) = parts
entries (Stated all used free) = []
entries Synced = []
entries Malformed = []

-- all rows of the parts
abbrev pub rows_in : List Entry → List (ℕ × ℕ)
rows_in parts = flat_map (λ entry. rows_of entry.reply) parts

-- what is printed of a save: how many rows the parts have, if these went into its file
abbrev pub saved_text : Bool → List Entry → List ℕ
saved_text true parts = codes "saved " ++ decimal (length (rows_in parts))
saved_text false parts = codes "unsaved"

-- what is printed behind a line's number; of a scan, what it tells of those rows of its parts that are before its end
abbrev pub answer_text : Answer → List ℕ
answer_text (Replied entry) = reply_text entry.reply
answer_text (Added key number es reply) = reply_text reply
answer_text (Scanned asked parts) = told_text (scan_of asked).tells (rows_before (scan_of asked).until (rows_in parts))
answer_text (Saved parts done) = saved_text done parts
answer_text (Stated all used free) = room_text all used free
answer_text Synced = codes "synced"
answer_text Malformed = codes "malformed"

-- the lines as they are read: each ends with one LF
abbrev pub input_of : List Line → List ℕ
input_of lines = flat_map (λ line. line.bytes ++ 10 ∷ []) lines

-- the answers as they are written, numbered from n on
abbrev pub output_of : ℕ → List Line → List ℕ
output_of n [] = []
output_of n (line ∷ lines) = numbered n (answer_text line.answer) ++ output_of (suc n) lines

-- what is printed for the bytes after the last LF, if there are any: they are one malformed line
abbrev pub rest_text : ℕ → List ℕ → List ℕ
rest_text n [] = []
rest_text n (b ∷ bytes) = numbered n (answer_text Malformed)

-- what is printed for lines numbered from n on, and for the bytes behind them
abbrev pub text_of : ℕ → List Line → List ℕ → List ℕ
text_of n lines rest = output_of n lines ++ rest_text (n + length lines) rest
