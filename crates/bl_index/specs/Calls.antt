-- What a call tells the pass that makes it.
use Rattle.std.specs.Prelude.{◌≡◌, ◌≢◌, ℕ, ◌++◌, Option, Some, None, List, length, ◌≤◌}
use Rattle.bl_model.specs.Map.{Map, IsMapStep}
use Rattle.bl_model.specs.History.{final_map}
use Rattle.bl_model.specs.declared.deciding.KeyWrite.{KeyWrite}
use Rattle.bl_model.specs.declared.operation.Op.{Op}
use Rattle.bl_model.specs.declared.operation.Op.TheVariants as op
use Rattle.bl_model.specs.declared.operation.Reply.{Reply}
use Rattle.bl_model.specs.declared.operation.Reply.TheVariants as reply
use Rattle.bl_page.specs.declared.page.Page.{Page}
use Rattle.bl_claims.specs.Trails.{Mark, Trail, history_of, marks_of}
use Rattle.bl_claims.specs.Walks.{Each}
use Rattle.bl_claims.specs.Latches.{LatchesAlone, LatchesBelowAnchor}
use Rattle.bl_claims.specs.Families.{LatchesBeside}
use Rattle.bl_answers.specs.declared.answers.Hint.{Hint}
use Rattle.bl_answers.specs.declared.answers.Posted.{Posted}
use Rattle.bl_answers.specs.declared.answers.Squeezed.{Squeezed}
use Rattle.bl_answers.specs.declared.answers.Lowered.{Lowered}
use Rattle.bl_claims.specs.Answers.{MeansPosted}
use Rattle.bl_claims.specs.Hinted.{MeansInserted, MeansWritten}
use Rattle.bl_claims.specs.Climbed.{MeansClimbed}
use Rattle.bl_claims.specs.Squeezed.{MeansSqueezed}
use Rattle.bl_claims.specs.Lowered.{MeansLowered}
use Rattle.bl_layout.specs.Words.{frame_count}
use Rattle.bl_store.specs.Hands.{known, WasRefused}
use Rattle.bl_store.specs.Sweeps.{IsAllSwept, HasSweptOnce}
use Rattle.bl_claims.specs.Seeing.{first_map, IsLinearizable, own, name}
use Rattle.bl_index_rule.specs.Observed.{IsRelease}
use Rattle.bl_index_events.specs.Refused.{LacksForPage, LacksForWrite, LacksForPost}
use Rattle.bl_index.specs.declared.index.Index.{Index}
use Rattle.bl_index.specs.declared.index.Pass.{Pass}
use Rattle.bl_index_events.specs.Answered.{Answers, SaysNothing, InCall}

abbrev pub pages_of : Index → ℕ
pages_of index = index.store.layout.pages

abbrev pub passes_of : Index → ℕ
passes_of index = index.store.layout.passes

-- how many frames it has: each keeps the words of a page
abbrev pub frames_of : Index → ℕ
frames_of index = frame_count index.store.layout

-- what the index began with, as its store lent it to each pass: the pages of an image, or no pages where it was opened empty
abbrev pub first_of : Index → List (Option Page)
first_of index = index.store.table.shared.key.known.value.first

-- the pass is of this index, and knows what it began with
abbrev pub IsPassOf : Index → Pass → Type 0
IsPassOf index pass = (pass.hand.seat.table_id ≡ index.store.table.shared.table_id) × (pass.hand.seat.me.0.layout ≡ index.store.layout)
    × ((known pass.hand.seat).first ≡ first_of index)

abbrev pub number_of : Pass → ℕ
number_of pass = pass.hand.number

-- all that has happened in the index, up to the pass's own last event
abbrev pub trail : Pass → Trail
trail pass = (known pass.hand.seat).trail

-- the map after all that a trail tells, of an index that began so
abbrev pub map_after : List (Option Page) → Trail → Map
map_after first trail = final_map (first_map first) (history_of trail)

-- how many pages and frames the pass has released
abbrev pub released_by : Pass → ℕ
released_by pass = pass.hand.seat.me.0.releases

-- An insertion of that key found no room for its leaf: what it wanted is what its pass was refused last.
abbrev pub InsertLacks : Pass → ℕ → Pass → Type 0
InsertLacks old key new = InCall (number_of old) (Some reply.NoRoom) (trail old) (trail new) (λ marks. LacksForPage 0 key marks (WasRefused new.hand.seat))

-- The same of any write of it, by what it is to do.
abbrev pub WriteLacks : Pass → ℕ → KeyWrite → Pass → Type 0
WriteLacks old key does new = InCall (number_of old) (Some reply.NoRoom) (trail old) (trail new)
    (λ marks. LacksForWrite key does marks (WasRefused new.hand.seat))

-- A post of that key to that level found none for its parent, or for a new top level.
abbrev pub PostLacks : Pass → ℕ → ℕ → Pass → Type 0
PostLacks old level key new = InCall (number_of old) None (trail old) (trail new) (λ marks. LacksForPost level key marks (WasRefused new.hand.seat))

-- An insertion or a put that has entered its pair found none for a post of that key to that level.
abbrev pub ClimbLacks : Pass → ℕ → ℕ → Pass → Type 0
ClimbLacks old level key new = InCall (number_of old) (Some reply.Inserted) (trail old) (trail new)
    (λ marks. LacksForPost level key marks (WasRefused new.hand.seat))

-- The same pass of the same index
abbrev pub IsSamePass : Pass → Pass → Type 0
IsSamePass old new = (new.hand.seat.table_id ≡ old.hand.seat.table_id) × (new.hand.seat.me.0.layout ≡ old.hand.seat.me.0.layout)
    × (new.hand.number ≡ old.hand.number) × ((known new.hand.seat).first ≡ (known old.hand.seat).first)

-- In an index of one pass each call is a step of one map.
abbrev pub StepsAlone : List (Option Page) → Index → Op → Reply → Trail → Trail → Type 0
StepsAlone first index op reply old new = index.store.layout.passes ≡ 1 → IsMapStep (map_after first old) op reply (map_after first new)

-- In an index of one pass the map is as it was.
abbrev pub StaysAlone : List (Option Page) → Index → Trail → Trail → Type 0
StaysAlone first index old new = index.store.layout.passes ≡ 1 → map_after first new ≡ map_after first old

-- A sweep of the pass that answered a number. Its events are releases of pages, no more than that number, all of them by one
-- process of its own, which had done nothing before and does not begin. The entries of the pass are those of before, and if
-- what the pass had seen was linearizable, then so is what it has seen now.
pub record Sweeps (first : List (Option Page)) (pass answer : ℕ) (old new : Trail) : Type 0 where
  pub number : ℕ
  pub fresh : Each (λ (m : Mark). m.event.process ≢ name pass number) old
  pub more : Trail
  pub begins : new ≡ old ++ more
  pub mine : Each (λ (m : Mark). m.event.process.pass ≡ pass → IsRelease (name pass number) m) more
  pub few : length (marks_of (name pass number) more) ≤ answer
  pub seen : IsLinearizable first old → IsLinearizable first new
  pub none : own pass new ≡ own pass old

-- no frame that the pass has retired came after its last sweep
abbrev pub AllSwept : Pass → Type 0
AllSwept pass = IsAllSwept pass.hand

-- It has swept once more, and has retired no frame since.
abbrev pub SweptOnce : Pass → Pass → Type 0
SweptOnce old new = HasSweptOnce old.hand new.hand

-- An insertion, a put, a deletion or a change is answered, and its process has written what its reply means with the hint beside it. It
-- held no page when it latched one.
pub record Writes (first : List (Option Page)) (pass : ℕ) (op : Op) (reply : Reply) (next : Option Hint) (old new : Trail) : Type 0 where
  pub answers : Answers first pass op reply old new
  pub hint : MeansWritten reply next (marks_of (name pass answers.number) new)
  pub latches : LatchesAlone (marks_of (name pass answers.number) new)

-- The same of an insertion alone.
pub record Inserts (first : List (Option Page)) (pass key value : ℕ) (reply : Reply) (next : Option Hint) (old new : Trail) : Type 0 where
  pub answers : Answers first pass (op.Insert key value) reply old new
  pub hint : MeansInserted reply next (marks_of (name pass answers.number) new)
  pub latches : LatchesAlone (marks_of (name pass answers.number) new)

-- An insertion or a put with its posts is answered, and what its process has done is what its answer means. It held no page when it
-- latched one.
pub record Climbs (first : List (Option Page)) (pass : ℕ) (op : Op) (reply : Reply) (last : Option Posted) (left : Option Hint) (old new : Trail) : Type 0 where
  pub answers : Answers first pass op reply old new
  pub means : MeansClimbed reply last left (marks_of (name pass answers.number) new)
  pub latches : LatchesAlone (marks_of (name pass answers.number) new)

-- A post is answered: it says nothing of the map, and what its process has done is what its answer means with the hint beside it.
-- It held no page when it latched one.
pub record Posts (first : List (Option Page)) (pass level key : ℕ) (answer : Posted) (next : Option Hint) (old new : Trail) : Type 0 where
  pub adds : SaysNothing first pass old new
  pub means : MeansPosted level key answer next (marks_of (name pass adds.number) new)
  pub latches : LatchesAlone (marks_of (name pass adds.number) new)

-- A compression is answered: it says nothing of the map, and what its process has done is what its answer means with the hint
-- beside it. When it latched a page it held the parent and the left child at most.
pub record Compresses (first : List (Option Page)) (pass level key : ℕ) (answer : Squeezed) (next : Option Hint) (old new : Trail) : Type 0 where
  pub adds : SaysNothing first pass old new
  pub means : MeansSqueezed level key answer next (marks_of (name pass adds.number) new)
  pub latches : LatchesBeside level key (marks_of (name pass adds.number) new)

-- A call has not been done: it says nothing of the map, and its process has given up and leaves no more than that.
pub record GivesUp (Left : Trail → Type 0) (first : List (Option Page)) (pass : ℕ) (old new : Trail) : Type 0 where
  pub adds : SaysNothing first pass old new
  pub left : Left (marks_of (name pass adds.number) new)

-- A lowering is answered: it says nothing of the map, and what its process has done is what its answer means. When it latched a
-- page it held the anchor at most.
pub record LowersTree (first : List (Option Page)) (pass : ℕ) (answer : Lowered) (old new : Trail) : Type 0 where
  pub adds : SaysNothing first pass old new
  pub means : MeansLowered answer (marks_of (name pass adds.number) new)
  pub latches : LatchesBelowAnchor (marks_of (name pass adds.number) new)
