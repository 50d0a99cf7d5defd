-- The lines of a section, as they are read.
use Rattle.std.specs.Prelude.{◌≡◌, ◌≢◌, ℕ, ◌<◌, ◌≤◌, ◌⊎◌, List, [], ◌∷◌, ◌++◌, All, Option, Some, Result, Ok, Err, flat_map, length}
use Rattle.std.specs.List.{AllZip}
use Rattle.std.specs.Io.KnownBytes.{Consumes, IsAtEnd}
use Rattle.bl_serve_lines.specs.declared.request.Request.{Request}
use Rattle.bl_serve_lines.specs.declared.request.Request.TheVariants.{Sync}
use Rattle.bl_serve_lines.specs.declared.serving.Sectioning.{Sectioning}
use Rattle.bl_serve_lines.specs.declared.serving.Sectioning.TheVariants.{BySync, AtMost}
use Rattle.bl_serve_lines.specs.declared.serving.ServeFault.{ServeFault}
use Rattle.bl_serve_lines.specs.declared.serving.ServeFault.TheVariants.{Read, Write, Memory, Lost}
use Rattle.bl_serve_reading.specs.declared.section_reader.Reading.{Reading}
use Rattle.bl_serve_reading.specs.declared.section_reader.Reading.TheVariants as reading
use Rattle.bl_serve_reading.specs.declared.section_reader.ReadAhead.{ReadAhead}
use Rattle.bl_serve_reading.specs.declared.section_reader.SectionEnd.{SectionEnd}
use Rattle.bl_serve_reading.specs.declared.section_reader.SectionEnd.TheVariants.{ByLine, Rest, Finished}
use Rattle.bl_serve_lines.specs.Text.{Means}
use Rattle.bl_serve_lines.specs.Lines.{HasNoLf}
use Rattle.bl_serve_lines.specs.Served.{IsShort}
use Rattle.bl_serve_lines.specs.Streams.{EndsRead}

-- the bytes are a line that asks for this, or for nothing
pub record IsReadAs (asked : Option Request) (bytes : List ℕ) : Type 0 where
  pub cut : HasNoLf bytes
  pub means : Means bytes asked

-- the bytes of lines, each with its LF
abbrev pub bytes_of : List (List ℕ) → List ℕ
bytes_of texts = flat_map (λ bytes. bytes ++ 10 ∷ []) texts

-- a line that asks for this, the last one of so many in a section, ends it
abbrev pub AsksEnd : Sectioning → ℕ → Option Request → Type 0
AsksEnd BySync count asked = asked ≡ Some Sync
AsksEnd (AtMost most) count asked = (asked ≡ Some Sync) ⊎ (most ≤ count)

-- none of the lines does
abbrev pub AskNoEnd : Sectioning → List (Option Request) → Type 0
AskNoEnd how asked = All (λ a. a ≢ Some Sync) asked × IsShort how (length asked)

-- the last line does, and no other
pub record AskEndLast (how : Sectioning) (asked : List (Option Request)) : Type 0 where
  pub front : List (Option Request)
  pub last : Option Request
  pub ends : asked ≡ front ++ last ∷ []
  pub is_end : AsksEnd how (length asked) last
  pub no_end : AskNoEnd how front

-- what reading of the next line gave
abbrev pub ReadsLine : {E : Type 0} → List ℕ → List ℕ → Result Reading E → List ℕ → Type 0 → Type 0 → Type 0
ReadsLine unread bytes (Ok (reading.Line asked)) left at_end failed = IsReadAs asked bytes × (unread ≡ bytes ++ 10 ∷ left)
ReadsLine unread bytes (Ok reading.Rest) left at_end failed = HasNoLf bytes × (0 < length bytes) × (unread ≡ bytes ++ left) × EndsRead bytes left at_end
ReadsLine unread bytes (Ok reading.End) left at_end failed = (unread ≡ []) × (left ≡ []) × at_end
ReadsLine unread bytes (Err e) left at_end failed = HasNoLf bytes × (unread ≡ bytes) × (left ≡ []) × failed

-- Lines were read, and bytes with no LF behind them; left was read ahead.
pub record ReadsLines (unread left : List ℕ) (asked : List (Option Request)) (rest : List ℕ) : Type 0 where
  pub texts : List (List ℕ)
  pub each : AllZip IsReadAs asked texts
  pub cut : HasNoLf rest
  pub read : unread ≡ bytes_of texts ++ rest ++ left

-- how reading of a section ended, which takes at most so many lines
abbrev pub EndsReading : Sectioning → Result SectionEnd ServeFault → ℕ → List (Option Request) → List ℕ → List ℕ → List ℕ → Type 0 → Type 0 → Type 0
EndsReading how (Ok ByLine) most asked rest unread left at_end failed = ReadsLines unread left asked rest × (length asked ≤ most) × (rest ≡ []) × AskEndLast how asked
EndsReading how (Ok Rest) most asked rest unread left at_end failed =
    ReadsLines unread left asked rest × (length asked < most) × (0 < length rest) × AskNoEnd how asked × EndsRead rest left at_end
EndsReading how (Ok Finished) most asked rest unread left at_end failed =
    ReadsLines unread left asked rest × (length asked ≤ most) × (rest ≡ []) × AskNoEnd how asked × (((left ≡ []) × at_end) ⊎ (most ≤ length asked))
EndsReading how (Err Read) most asked rest unread left at_end failed = ReadsLines unread left asked rest × AskNoEnd how asked × (left ≡ []) × failed
EndsReading how (Err Write) most asked rest unread left at_end failed = ⊥
EndsReading how (Err Memory) most asked rest unread left at_end failed = Unit {0}
EndsReading how (Err (Lost number)) most asked rest unread left at_end failed = ⊥

-- At most so many lines were read on as are wanted; where none are, nothing was read.
pub record ReadsOn (old new : ReadAhead) (before after : Option (List ℕ)) (failed : Type 0) : Type 0 where
  pub rest : List ℕ
  pub more : List ℕ
  pub consumed : Consumes before after more
  pub reads : EndsReading old.sections new.end old.most new.lines rest (old.source ++ more) new.source (IsAtEnd after) failed
  pub same : new.sections ≡ old.sections
  pub idle : old.most ≡ 0 → (after ≡ before) × (new.source ≡ old.source)
