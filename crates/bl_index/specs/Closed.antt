-- An index that is closed.
use Rattle.std.specs.Prelude.{◌≡◌, ℕ, ◌<◌, ◌≤◌, List, [], Option, All, length, vec_capacity}
use mathlib.Core.Option.{some}
use lib.ListN.{get_elem?}
use Rattle.bl_model.specs.Map.{SameMap}
use Rattle.bl_model.specs.Rows.{map_of}
use Rattle.bl_page.specs.declared.page.Page.{Page}
use Rattle.bl_check.specs.Rows.{AreRowsOf}
use Rattle.bl_claims.specs.Trails.{Trail}
use Rattle.bl_check_laws.specs.Begins.{AreLeft}
use Rattle.bl_store.specs.declared.store.Hand.{Hand}
use Rattle.bl_index_rule.specs.declared.known.PassState.{PassState}
use Rattle.bl_claims.specs.Seeing.{IsSeen, AreWithin, own, GoesOnFrom}
use Rattle.bl_store.specs.Closing.{HasEach}
use Rattle.bl_store.specs.Hands.{known, IsIdle}
use Rattle.bl_store.specs.Owners.{IsHandOf as IsHandOfStore}
use Rattle.bl_index.specs.declared.closing.CloseRoom.{CloseRoom}
use Rattle.bl_index.specs.declared.config.CloseFault.{CloseFault}
use Rattle.bl_index.specs.declared.config.CloseFault.TheVariants as fault
use Rattle.bl_index.specs.declared.index.Index.{Index}
use Rattle.bl_index.specs.declared.index.Pass.{Pass}
use Rattle.bl_index.specs.Calls.{pages_of, passes_of, first_of, IsPassOf, number_of, trail, map_after}

-- one of the passes has that number
pub record HasPass (passes : List Pass) (n : ℕ) : Type 0 where
  pub place : ℕ
  pub pass : Pass
  pub at : get_elem? passes place ≡ some pass
  pub numbered : number_of pass ≡ n

-- all passes are of this index
abbrev pub AreOf : Index → List Pass → Type 0
AreOf index passes = All (IsPassOf index) passes

-- each of the index's passes is among them
abbrev pub AreAll : Index → List Pass → Type 0
AreAll index passes = (n : ℕ) → n < passes_of index → HasPass passes n

-- One trail that the index may have is all that has happened in it: it begins with what each pass has seen, has no other entries
-- of that pass, and none of anybody else. The pages of the image are those that it leaves open, and their rows are the map after it.
pub record Closes (index : Index) (passes : List Pass) (pages : List (Option Page)) : Type 0 where
  pub whole : Trail
  pub seen : IsSeen (first_of index) whole
  pub all : AreAll index passes
  pub begins : (k : ℕ) (pass : Pass) → get_elem? passes k ≡ some pass → GoesOnFrom (trail pass) whole
  pub none : (k : ℕ) (pass : Pass) → get_elem? passes k ≡ some pass → own (number_of pass) whole ≡ own (number_of pass) (trail pass)
  pub within : AreWithin (passes_of index) whole
  pub count : length pages ≡ pages_of index
  pub left : AreLeft pages seen.linear.now
  pub rows : List (ℕ × ℕ)
  pub are_rows : AreRowsOf pages rows
  pub map : SameMap (map_after (first_of index) whole) (map_of rows)

-- Why an index was not closed: one of its passes is missing; or all are there, and there was no memory.
abbrev pub IsCloseFault : Index → List Pass → CloseFault → Type 0
IsCloseFault index passes fault.Pass = (n : ℕ) × (n < passes_of index) × ¬ HasPass passes n
IsCloseFault index passes fault.Memory = AreAll index passes

-- The index and the passes come back as they were.
pub record IsRefused (index : Index) (passes : List Pass) (back : Index) (passes_back : List Pass) (why : CloseFault) : Type 0 where
  pub index_is : back ≡ index
  pub passes_are : passes_back ≡ passes
  pub why_is : IsCloseFault index passes why

-- a hand of the index, outside a process
abbrev pub IsIdleOf : Index → Hand PassState → Type 0
IsIdleOf index hand = IsHandOfStore index.store hand × IsIdle hand.seat

-- The same of hands. What the index began with is what each of them knows that it began with.
pub record ClosesHands (index : Index) (hands : List (Hand PassState)) (pages : List (Option Page)) : Type 0 where
  pub first : List (Option Page)
  pub firsts : (k : ℕ) (hand : Hand PassState) → get_elem? hands k ≡ some hand → (known hand.seat).first ≡ first
  pub whole : Trail
  pub seen : IsSeen first whole
  pub all : HasEach (passes_of index) hands
  pub begins : (k : ℕ) (hand : Hand PassState) → get_elem? hands k ≡ some hand → GoesOnFrom (known hand.seat).trail whole
  pub none : (k : ℕ) (hand : Hand PassState) → get_elem? hands k ≡ some hand → own hand.number whole ≡ own hand.number (known hand.seat).trail
  pub within : AreWithin (passes_of index) whole
  pub count : length pages ≡ pages_of index
  pub left : AreLeft pages seen.linear.now
  pub rows : List (ℕ × ℕ)
  pub are_rows : AreRowsOf pages rows
  pub map : SameMap (map_after first whole) (map_of rows)

-- empty vectors with capacity for so many pages
pub record HasCapacity (pages : ℕ) (room : CloseRoom) : Type 0 where
  pub words_empty : room.words.items ≡ []
  pub words_fit : pages ≤ vec_capacity room.words
  pub pages_empty : room.pages.items ≡ []
  pub pages_fit : pages ≤ vec_capacity room.pages

-- the hand is that of a pass
pub record IsHandOf (passes : List Pass) (hand : Hand PassState) : Type 0 where
  pub place : ℕ
  pub pass : Pass
  pub at : get_elem? passes place ≡ some pass
  pub is : pass.hand ≡ hand

-- the hand is among them
abbrev pub IsAmong : List (Hand PassState) → Hand PassState → Type 0
IsAmong hands hand = (k : ℕ) × (get_elem? hands k ≡ some hand)

-- the hands of the passes, and no others
pub record AreHandsOf (passes : List Pass) (hands : List (Hand PassState)) : Type 0 where
  pub only : (k : ℕ) (hand : Hand PassState) → get_elem? hands k ≡ some hand → IsHandOf passes hand
  pub all : (k : ℕ) (pass : Pass) → get_elem? passes k ≡ some pass → IsAmong hands pass.hand
