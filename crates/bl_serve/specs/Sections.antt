-- Sections that are answered and counted.
use Rattle.std.specs.Prelude.{◌≡◌, ℕ, suc, ◌+◌, map, flat_map, List, [], Option, length, is_none, count_by, codes}
use Rattle.std.specs.List.{AllZip}
use Rattle.bl_serve_lines.specs.declared.request.Request.{Request}
use Rattle.bl_serve_lines.specs.declared.serving.Totals.{Totals}
use Rattle.bl_serve_reading.specs.Syncs.{is_sync}
use Rattle.bl_serve_reading.specs.declared.section_reader.SectionEnd.{SectionEnd}
use Rattle.bl_serve_reading.specs.declared.section_reader.SectionEnd.TheVariants.{ByLine, Rest, Finished}
use Rattle.bl_serve_lines.specs.Text.{numbered}
use Rattle.bl_serve_lines.specs.Lines.{Answer, entries}
use Rattle.bl_serve_lines.specs.Served.{Interleaves, on_key}
use Rattle.bl_claims.specs.Trails.{Trail, history_of}
use Rattle.bl_serve_worker.specs.Answering.{IsFor, answers_text}

-- one for bytes behind the last LF
abbrev pub rests : SectionEnd → ℕ
rests ByLine = 0
rests Rest = 1
rests Finished = 0

-- what is printed for bytes behind the last LF, which are the line of that number
abbrev pub end_text : SectionEnd → ℕ → List ℕ
end_text ByLine n = []
end_text Rest n = numbered n (codes "malformed")
end_text Finished n = []

-- The lines were answered after so many others by an index of so many pages, at least and at most, the text prints the answers, and more has their entries and no others: those of
-- one line in their order, the operations on one key in the order of the lines, in any order otherwise.
pub record Held (pages : ℕ × ℕ) (done : ℕ) (asked : List (Option Request)) (text : List ℕ) (more : Trail) : Type 0 where
  pub answers : List Answer
  pub each : AllZip (IsFor pages) asked answers
  pub prints : text ≡ answers_text (suc done) answers
  pub interleaves : Interleaves (map entries answers) (history_of more)
  pub order : (key : ℕ) → on_key key (history_of more) ≡ on_key key (flat_map entries answers)

-- new is old with the lines of a section
pub record CountsSection (old new : Totals) (asked : List (Option Request)) (end : SectionEnd) : Type 0 where
  pub requests : new.requests ≡ old.requests + length asked + rests end
  pub malformed : new.malformed ≡ old.malformed + count_by is_none asked + rests end
  pub sections : new.sections ≡ old.sections + count_by is_sync asked
