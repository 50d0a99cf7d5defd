-- What a call promises that changes a row by a function of its value.
use Rattle.std.specs.Prelude.{◌≡◌, ℕ, List, Option}
use Rattle.bl_model.specs.declared.operation.Op.TheVariants as op
use Rattle.bl_model.specs.declared.operation.Reply.{Reply}
use Rattle.bl_model.specs.declared.operation.Reply.TheVariants as reply
use Rattle.bl_page.specs.declared.page.Page.{Page}
use Rattle.bl_claims.specs.Trails.{Trail}
use Rattle.bl_claims.specs.Seeing.{IsLinearizable, GoesOnFrom}
use Rattle.bl_map_calls.specs.declared.updating.Updated.{Updated}
use Rattle.bl_map_calls.specs.declared.updating.Updated.TheVariants.{Changed, Absent, NoRoom}
use Rattle.bl_waiting.specs.declared.waiting.Waiting.{Waiting}
use Rattle.bl_map_calls.specs.Waits.{WritesKey}
use Rattle.bl_map_calls.specs.Works.{Searched}

-- The pass has looked the key up. Each value that it saw there it gave to the function, which leads from one state to another one, and tried
-- to put what the function gave for it in its place; but each time the key had another value by then, and this one was seen last.
pub data Tried {F : Type 0} (gives : F → ℕ → ℕ → F → Type 0) (first : List (Option Page)) (pages pass key : ℕ)
    : ℕ → F → F → Waiting → Waiting → Trail → Trail → Type 0 where
  Saw : {value : ℕ} {f : F} {waiting : Waiting} {old new : Trail} → Searched first pages pass (op.Find key) (reply.Found value) old new
      → Tried gives first pages pass key value f f waiting waiting old new
  Differed : {value next other : ℕ} {f g h : F} {before mid after : Waiting} {old between new : Trail}
      → Tried gives first pages pass key value f g before mid old between → gives g value next h
      → WritesKey first pass (op.Change key value next) (reply.Differs other) mid after between new
      → Tried gives first pages pass key other f h before after old new

-- what the last change answers, by what the whole call does
abbrev pub ends_as : ℕ → ℕ → Reply → Updated → Type 0
ends_as value next reply.Changed (Changed was is) = (was ≡ value) × (is ≡ next)
ends_as value next reply.Absent Absent = Unit {0}
ends_as value next reply.NoRoom NoRoom = Unit {0}
ends_as value next reply answer = ⊥

-- The key was absent when it was looked up; or the last change was not told that another value was there.
pub data Ended {F : Type 0} (gives : F → ℕ → ℕ → F → Type 0) (first : List (Option Page)) (pages pass key : ℕ)
    : Updated → F → F → Waiting → Waiting → Trail → Trail → Type 0 where
  NotThere : {f : F} {waiting : Waiting} {old new : Trail} → Searched first pages pass (op.Find key) reply.Absent old new
      → Ended gives first pages pass key Absent f f waiting waiting old new
  Settled : {value next : ℕ} {said : Reply} {answer : Updated} {f g h : F} {before mid after : Waiting} {old between new : Trail}
      → Tried gives first pages pass key value f g before mid old between → gives g value next h
      → WritesKey first pass (op.Change key value next) said mid after between new → ends_as value next said answer
      → Ended gives first pages pass key answer f h before after old new

-- The same, and what the pass has seen then goes on from what it had seen, and is linearizable.
pub record Updates {F : Type 0} (gives : F → ℕ → ℕ → F → Type 0) (first : List (Option Page)) (pages pass key : ℕ) (answer : Updated)
    (f g : F) (before after : Waiting) (old new : Trail) : Type 0 where
  pub begins : GoesOnFrom old new
  pub seen : IsLinearizable first new
  pub ended : Ended gives first pages pass key answer f g before after old new
