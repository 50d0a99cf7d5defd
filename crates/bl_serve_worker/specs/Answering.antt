-- What the lines that a pass answers add to what it has seen.
use Rattle.std.specs.Prelude.{◌≡◌, ℕ, suc, Bool, ◌++◌, List, [], ◌∷◌, Option, Some, None, flat_map, map, length}
use Rattle.std.specs.List.{AllZip}
use Rattle.bl_model.specs.declared.operation.Entry.{Entry}
use Rattle.bl_model.specs.declared.operation.Reply.{Reply}
use Rattle.bl_serve_lines.specs.declared.request.Request.{Request}
use Rattle.bl_serve_lines.specs.declared.request.Request.TheVariants.{Ask, Add, Scan, Save, Stat, Sync}
use Rattle.bl_serve_lines.specs.Lines.{Answer, Replied, Added, Scanned, Saved, Stated, Synced, Malformed, Adds, IsRoom, entries, rows_in, answer_text}
use Rattle.bl_serve_lines.specs.Scans.{AreParts, rows_before, scan_of, shown}
use Rattle.bl_serve_lines.specs.declared.listing.Listing.{Listing}
use Rattle.bl_serve_lines.specs.declared.listing.Listing.TheVariants.{ScanFrom}
use Rattle.bl_serve_lines.specs.declared.listing.Scan as listing
use Rattle.bl_serve_lines.specs.Text.{numbered, row_text}
use Rattle.bl_page.specs.declared.page.Page.{Page}
use Rattle.bl_claims.specs.Trails.{Trail}
use Rattle.bl_claims.specs.Seeing.{IsLinearizable, own, GoesOnFrom}
use Rattle.bl_map.specs.declared.handle.Handle.{Handle}
use Rattle.bl_map.specs.Handles.{first_map_of, pages_of_map, number_of_seat, seen_by}

-- the answer is one to what was asked, of an index that has so many pages at least, and so many at most
pub data IsFor (pages : ℕ × ℕ) : Option Request → Answer → Type 0 where
  Replies : (entry : Entry) → IsFor pages (Some (Ask entry.op)) (Replied entry)
  Sums : (key number : ℕ) (es : List Entry) (reply : Reply) → Adds key number None es reply → IsFor pages (Some (Add key number)) (Added key number es reply)
  Scans : (asked : Listing) (parts : List Entry) → AreParts (scan_of asked) parts → IsFor pages (Some (Scan asked)) (Scanned asked parts)
  Saves : (parts : List Entry) (done : Bool) → AreParts (scan_of (ScanFrom 0 None)) parts → IsFor pages (Some Save) (Saved parts done)
  States : (all used free : ℕ) → IsRoom pages all used free → IsFor pages (Some Stat) (Stated all used free)
  Syncs : IsFor pages (Some Sync) Synced
  Refuses : IsFor pages None Malformed

-- the answers as they are written, numbered from n on
abbrev pub answers_text : ℕ → List Answer → List ℕ
answers_text n [] = []
answers_text n (answer ∷ answers) = numbered n (answer_text answer) ++ answers_text (suc n) answers

-- the replies as they are written, with these numbers
abbrev pub replies : List ℕ → List Answer → List (List ℕ)
replies [] answers = []
replies (n ∷ numbers) [] = []
replies (n ∷ numbers) (answer ∷ answers) = numbered n (answer_text answer) ∷ replies numbers answers

-- they, one after another
abbrev pub joined_text : List (List ℕ) → List ℕ
joined_text texts = flat_map (λ text. text) texts

-- These entries of the pass are all that is new of its own.
pub record HasMade (first : List (Option Page)) (pass : ℕ) (es : List Entry) (old new : Trail) : Type 0 where
  pub begins : GoesOnFrom old new
  pub seen : IsLinearizable first old → IsLinearizable first new
  pub mine : own pass new ≡ own pass old ++ es

-- The line of that number was answered, and its answer was written: the new entries of the pass are those of the answer.
pub record AnswersLine (first : List (Option Page)) (pages pass number : ℕ) (asked : Option Request) (before after : List ℕ) (old new : Trail) : Type 0 where
  pub answer : Answer
  pub is_for : IsFor (pages, pages) asked answer
  pub prints : after ≡ before ++ numbered number (answer_text answer)
  pub begins : GoesOnFrom old new
  pub seen : IsLinearizable first old → IsLinearizable first new
  pub mine : own pass new ≡ own pass old ++ entries answer

-- The lines of these numbers were answered one after another: the text prints the answers, each in so many bytes.
pub record AnswersLines (first : List (Option Page)) (pages pass : ℕ) (numbers : List ℕ) (lines : List (Option Request)) (text lengths : List ℕ) (old new : Trail) : Type 0 where
  pub answers : List Answer
  pub each : AllZip (IsFor (pages, pages)) lines answers
  pub prints : text ≡ joined_text (replies numbers answers)
  pub cuts : lengths ≡ map length (replies numbers answers)
  pub begins : GoesOnFrom old new
  pub seen : IsLinearizable first old → IsLinearizable first new
  pub mine : own pass new ≡ own pass old ++ flat_map entries answers

-- The handle has made the parts of a scan, and those rows of them that are told were written.
abbrev pub HasWrittenRows : listing.Scan → List ℕ → List ℕ → Handle → Handle → Type 0
HasWrittenRows scan before after old new = (parts : List Entry) × AreParts scan parts × HasMade (first_map_of old) (number_of_seat old) parts (seen_by old) (seen_by new)
    × (after ≡ before ++ flat_map row_text (shown scan.tells (rows_before scan.until (rows_in parts))))

-- It has added a number to the value of a key, with this reply.
abbrev pub HasAdded : ℕ → ℕ → Reply → Handle → Handle → Type 0
HasAdded key number reply old new =
    (es : List Entry) × Adds key number None es reply × HasMade (first_map_of old) (number_of_seat old) es (seen_by old) (seen_by new)

-- It has answered the line of that number.
abbrev pub HasAnswered : ℕ → Option Request → List ℕ → List ℕ → Handle → Handle → Type 0
HasAnswered number asked before after old new = AnswersLine (first_map_of old) (pages_of_map old) (number_of_seat old) number asked before after (seen_by old) (seen_by new)

-- It has answered the lines of these numbers.
abbrev pub HasAnsweredAll : List ℕ → List (Option Request) → List ℕ → List ℕ → Handle → Handle → Type 0
HasAnsweredAll numbers lines text lengths old new = AnswersLines (first_map_of old) (pages_of_map old) (number_of_seat old) numbers lines text lengths (seen_by old) (seen_by new)
