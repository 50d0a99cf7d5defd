-- All handles of an index meet.
use Rattle.std.specs.Prelude.{◌≡◌, List, Option, All}
use Rattle.std.specs.List.{AllZip}
use Rattle.bl_page.specs.declared.page.Page.{Page}
use Rattle.bl_claims.specs.Trails.{Trail}
use Rattle.bl_claims.specs.Seeing.{IsLinearizable, own, GoesOnFrom}
use Rattle.bl_index.specs.declared.index.Index.{Index}
use Rattle.bl_index.specs.declared.index.Pass.{Pass}
use Rattle.bl_index.specs.Calls.{IsPassOf, IsSamePass, number_of, trail}
use Rattle.bl_map.specs.declared.handle.Handle.{Handle}
use Rattle.bl_map.specs.Handles.{IsSameHandle, KeepsHints, number_of_seat, seat_of, seen_by}

-- the handle works from a seat of this index
abbrev pub IsSeated : Index → Handle → Type 0
IsSeated index handle = IsPassOf index (seat_of handle)

-- The handle has seen what it had seen, and no more.
abbrev pub KeepsHandle : Handle → Handle → Type 0
KeepsHandle old new = IsSameHandle old new × KeepsHints old new × (seen_by new ≡ seen_by old)

-- The pass has now seen that trail, which begins with what it had seen and has no further entry of it.
pub record Comes (seen : Trail) (old new : Pass) : Type 0 where
  pub same : IsSamePass old new
  pub is : trail new ≡ seen
  pub begins : GoesOnFrom (trail old) seen
  pub none : own (number_of old) seen ≡ own (number_of old) (trail old)

-- The handle has now seen it by its seat, and the same hints wait.
abbrev pub HasCome : Trail → Handle → Handle → Type 0
HasCome seen old new = (new.index ≡ old.index) × KeepsHints old new × Comes seen (seat_of old) (seat_of new)

-- The first handle has seen what the others had seen, and the others what they had.
pub record LearnsAll (first : List (Option Page)) (one one' : Handle) (others others' : List Handle) : Type 0 where
  pub same : IsSameHandle one one'
  pub keeps : KeepsHints one one'
  pub begins : GoesOnFrom (seen_by one) (seen_by one')
  pub none : own (number_of_seat one) (seen_by one') ≡ own (number_of_seat one) (seen_by one)
  pub may_be : IsLinearizable first (seen_by one) → IsLinearizable first (seen_by one')
  pub kept : AllZip KeepsHandle others others'
  pub known : All (λ h. GoesOnFrom (seen_by h) (seen_by one')) others'

-- All have seen one trail. It is linearizable, if what the first one had seen was.
pub record HaveAllMet (first : List (Option Page)) (one : Handle) (others : List Handle) (one' : Handle) (others' : List Handle) : Type 0 where
  pub seen : Trail
  pub mine : HasCome seen one one'
  pub theirs : AllZip (HasCome seen) others others'
  pub may_be : IsLinearizable first (seen_by one) → IsLinearizable first seen
