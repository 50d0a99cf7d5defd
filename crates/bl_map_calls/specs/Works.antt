-- What a call adds to what a pass has seen.
use Rattle.std.specs.Prelude.{◌≡◌, ℕ, ◌++◌, List, [], ◌∷◌, Option}
use Rattle.bl_model.specs.declared.operation.Op.{Op}
use Rattle.bl_model.specs.declared.operation.Reply.{Reply}
use Rattle.bl_page.specs.declared.page.Page.{Page}
use Rattle.bl_model.specs.declared.deciding.KeyWrite.{KeyWrite}
use Rattle.bl_index.specs.declared.index.Pass.{Pass}
use Rattle.bl_claims.specs.Trails.{Trail}
use Rattle.bl_claims.specs.Seeing.{IsLinearizable, own, GoesOnFrom}
use Rattle.bl_model.specs.declared.operation.Entry.{Entry}
use Rattle.bl_index.specs.Calls.{Sweeps, WriteLacks, number_of, trail}
use Rattle.bl_index_read.specs.Searching.{Finds, RunsOut}

-- What the pass has seen begins with what it had seen and is linearizable, and its only new entry of this pass is this operation with
-- this reply.
pub record Works (first : List (Option Page)) (pass : ℕ) (op : Op) (reply : Reply) (old new : Trail) : Type 0 where
  pub begins : GoesOnFrom old new
  pub seen : IsLinearizable first new
  pub once : own pass new ≡ own pass old ++ record { pass = pass; op = op; reply = reply } ∷ []

-- The same of what adds no entry.
pub record Adds (first : List (Option Page)) (pass : ℕ) (old new : Trail) : Type 0 where
  pub begins : GoesOnFrom old new
  pub seen : IsLinearizable first old → IsLinearizable first new
  pub none : own pass new ≡ own pass old

-- The pass has made searches, one after another, each with a turn for each page, and has done nothing else: some ran out of turns, and
-- those with these entries were answered.
pub data Searches (first : List (Option Page)) (pages pass : ℕ) : List Entry → Trail → Trail → Type 0 where
  NoneMade : {old : Trail} → Searches first pages pass [] old old
  OneLost : {es : List Entry} {old mid new : Trail} → Searches first pages pass es old mid → RunsOut first pages pass pages mid new
      → Searches first pages pass es old new
  OneMade : {es : List Entry} {old mid new : Trail} (e : Entry) → Searches first pages pass es old mid
      → Finds first pages pass pages e.op e.reply mid new → Searches first pages pass (es ++ e ∷ []) old new

-- One of them was answered so.
abbrev pub Searched : List (Option Page) → ℕ → ℕ → Op → Reply → Trail → Trail → Type 0
Searched first pages pass op reply old new = Searches first pages pass (record { pass = pass; op = op; reply = reply } ∷ []) old new

-- The pass has swept, as often as it may be, and has done nothing else.
pub data Swept (first : List (Option Page)) (pass : ℕ) : Trail → Trail → Type 0 where
  Never : {old : Trail} → Swept first pass old old
  Again : {old mid new : Trail} {answer : ℕ} → Swept first pass old mid → Sweeps first pass answer mid new → Swept first pass old new

-- The last call of the index that the pass has made is one that writes the key so, and it found no room: what it wanted is what the pass was
-- refused last. It has done nothing since.
pub record FoundNoRoom (key : ℕ) (does : KeyWrite) (old new : Pass) : Type 0 where
  pub before : Pass
  pub mine : number_of before ≡ number_of old
  pub begins : GoesOnFrom (trail old) (trail before)
  pub lacks : WriteLacks before key does new
