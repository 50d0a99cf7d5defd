-- A chunk of lines that was answered.
use Rattle.std.specs.Prelude.{◌≡◌, ℕ, ◌++◌, List, [], ◌∷◌, All, Bool, Option, false, flat_map, map}
use Rattle.std.specs.List.{AllZip}
use Rattle.bl_model.specs.declared.operation.Entry.{Entry}
use Rattle.bl_serve_lines.specs.declared.request.Request.{Request}
use Rattle.bl_serve_lines.specs.Lines.{Answer, entries}
use Rattle.bl_serve_lines.specs.Served.{Interleaves, on_key}
use Rattle.bl_page.specs.declared.page.Page.{Page}
use Rattle.bl_claims.specs.Seeing.{IsLinearizable, own, GoesOnFrom}
use Rattle.bl_index.specs.declared.index.Pass.{Pass}
use Rattle.bl_index.specs.Calls.{IsSamePass, number_of, trail}
use Rattle.bl_map.specs.declared.handle.Handle.{Handle}
use Rattle.bl_serve_worker.specs.declared.chunk.ShareOutput.{ShareOutput}
use Rattle.bl_serve_worker.specs.declared.chunk.Slot.{Slot}
use Rattle.bl_serve_worker.specs.Answering.{IsFor, answers_text}
use Rattle.bl_serve_worker.specs.Shares.{WorksOn}

-- a pass before and after a chunk, and the entries of the shares that its thread answered
pub record Taken : Type 0 where
  pub old : Pass
  pub new : Pass
  pub share : List (List Entry)

-- The pass came back, and its new own entries are those of its shares, in their order.
pub record IsTaken (first : List (Option Page)) (t : Taken) : Type 0 where
  pub same : IsSamePass t.old t.new
  pub begins : GoesOnFrom (trail t.old) (trail t.new)
  pub seen : IsLinearizable first (trail t.old) → IsLinearizable first (trail t.new)
  pub mine : own (number_of t.old) (trail t.new) ≡ own (number_of t.old) (trail t.old) ++ flat_map (λ list. list) t.share

-- A history that interleaves the entries of all shares interleaves those of the answers.
abbrev pub Weaves : List Taken → List Answer → Type 0
Weaves taken answers = (history : List Entry) → Interleaves (flat_map (λ t. t.share) taken) history → Interleaves (map entries answers) history

-- In a history that interleaves the entries of all shares the operations on one key are in the order of the answers.
abbrev pub KeepsOrder : List Taken → List Answer → Type 0
KeepsOrder taken answers = (history : List Entry) → Interleaves (flat_map (λ t. t.share) taken) history → (key : ℕ) → on_key key history ≡ on_key key (flat_map entries answers)

-- The lines were answered by these passes, and the text prints the answers.
pub record IsChunk (first : List (Option Page)) (pages number : ℕ) (lines : List (Option Request)) (text : List ℕ) (old new : List Pass) : Type 0 where
  pub answers : List Answer
  pub each : AllZip (IsFor (pages, pages)) lines answers
  pub prints : text ≡ answers_text number answers
  pub taken : List Taken
  pub old_are : map (λ t. t.old) taken ≡ old
  pub new_are : map (λ t. t.new) taken ≡ new
  pub each_taken : All (IsTaken first) taken
  pub weaves : Weaves taken answers
  pub keeps : KeepsOrder taken answers

-- the outputs in all slots, for each of which there was memory
pub record Collects (slots : List Slot) (outputs : List ShareOutput) : Type 0 where
  pub none_failed : All (λ (s : Slot). s.failed ≡ false) slots
  pub outputs_are : outputs ≡ flat_map (λ s. s.log.items) slots

-- Each of these handles has done its work for a chunk, at the slot that has its place.
abbrev pub WorkOn : Bool → ℕ → List ℕ → List (Option Request) → List Handle → List Handle → List Slot → Type 0
WorkOn keeps number deals lines [] [] [] = Unit {0}
WorkOn keeps number deals lines (old ∷ olds) (new ∷ news) (slot ∷ slots) =
    WorksOn keeps number deals lines old new slot × WorkOn keeps number deals lines olds news slots
WorkOn keeps number deals lines olds news slots = ⊥
