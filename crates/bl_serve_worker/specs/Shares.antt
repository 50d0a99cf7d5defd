-- What a handle does for a chunk of lines.
use Rattle.std.specs.Prelude.{◌≡◌, ◌≢◌, ◌≤◌, ◌<◌, ℕ, ◌++◌, List, [], All, Bool, Option, Some, None, slice_index, true, false, flat_map, map, length}
use Rattle.std.specs.List.{AllZip}
use Rattle.bl_serve_lines.specs.declared.request.Request.{Request}
use Rattle.bl_serve_lines.specs.Lines.{Answer, entries}
use Rattle.bl_serve_lines.specs.Dealt.{dealt, numbers}
use Rattle.bl_page.specs.declared.page.Page.{Page}
use Rattle.bl_claims.specs.Trails.{Trail}
use Rattle.bl_claims.specs.Seeing.{IsLinearizable, own, GoesOnFrom}
use Rattle.bl_map.specs.declared.handle.Handle.{Handle}
use Rattle.bl_map.specs.Handles.{IsSameHandle, first_map_of, pages_of_map, number_of_seat, seen_by}
use Rattle.bl_serve_worker.specs.declared.chunk.ShareOutput.{ShareOutput}
use Rattle.bl_serve_worker.specs.declared.chunk.Slot.{Slot}
use Rattle.bl_serve_worker.specs.Answering.{IsFor, joined_text, replies}
use Rattle.bl_serve_worker.specs.Noting.{HasNoted}

-- the first place from that one on that is the share's, if there is one
abbrev pub IsNextPlace : ℕ → List ℕ → ℕ → Option ℕ → Type 0
IsNextPlace share deals from None = (k : ℕ) → from ≤ k → k < length deals → slice_index deals k ≢ share
IsNextPlace share deals from (Some place) =
    (from ≤ place) × (place < length deals) × (slice_index deals place ≡ share) × ((k : ℕ) → from ≤ k → k < place → slice_index deals k ≢ share)

-- a share's output, and the answers that it prints
pub record Piece : Type 0 where
  pub output : ShareOutput
  pub answers : List Answer

-- The answers are those of the share's lines in their order, of an index of so many pages, and its output prints them with the numbers of these
-- lines, the first line of all being that of that number.
pub record IsPiece (pages number : ℕ) (deals : List ℕ) (lines : List (Option Request)) (piece : Piece) : Type 0 where
  pub each : AllZip (IsFor (pages, pages)) (dealt piece.output.share deals lines) piece.answers
  pub prints : piece.output.text.items ≡ joined_text (replies (dealt piece.output.share deals (numbers number (length lines))) piece.answers)
  pub cuts : piece.output.lengths.items ≡ map length (replies (dealt piece.output.share deals (numbers number (length lines))) piece.answers)

-- Shares were answered and logged: the new own entries of the pass are those of the shares, in their order.
pub record Logs (first : List (Option Page)) (pages number : ℕ) (deals : List ℕ) (lines : List (Option Request)) (pass : ℕ) (old new : Trail)
    (log_old log_new : List ShareOutput) : Type 0 where
  pub pieces : List Piece
  pub log : log_new ≡ log_old ++ map (λ p. p.output) pieces
  pub each : All (IsPiece pages number deals lines) pieces
  pub begins : GoesOnFrom old new
  pub seen : IsLinearizable first old → IsLinearizable first new
  pub mine : own pass new ≡ own pass old ++ flat_map (λ p. flat_map entries p.answers) pieces

-- A handle has done its work for a chunk, and what it wrote stands in the log of its slot.
abbrev pub IsWork : ℕ → List ℕ → List (Option Request) → Handle → Handle → Slot → Type 0
IsWork number deals lines old new slot =
    Logs (first_map_of old) (pages_of_map old) number deals lines (number_of_seat old) (seen_by old) (seen_by new) [] slot.log.items

-- It has done its work, if there was memory for what it wrote. The changes in its slot, if changes are kept, are those of its new entries.
abbrev pub WorksOn : Bool → ℕ → List ℕ → List (Option Request) → Handle → Handle → Slot → Type 0
WorksOn keeps number deals lines old new slot = IsSameHandle old new × (slot.failed ≡ false → IsWork number deals lines old new slot)
    × (slot.failed ≡ false → keeps ≡ true → HasNoted (number_of_seat old) (seen_by old) (seen_by new) slot.changes)
