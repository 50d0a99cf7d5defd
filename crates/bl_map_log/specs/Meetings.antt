-- Handles of all seats meet.
use Rattle.std.specs.Prelude.{◌≡◌, List, [], ◌∷◌}
use Rattle.std.specs.List.{AllZip}
use Rattle.bl_claims.specs.Trails.{Trail}
use Rattle.bl_claims.specs.Seeing.{IsLinearizable, GoesOnFrom}
use Rattle.bl_map.specs.Handles.{IsSameHandle, KeepsHints, HasKeptUp, AreOfOne, first_map_of, seen_by}
use Rattle.bl_map_log.specs.declared.handle.NotingHandle.{NotingHandle}
use Rattle.bl_map_log.specs.Notes.{done_in, NotesNone}

-- The same handle has seen more, and has done and noted nothing.
pub record HasSeenMore (old new : NotingHandle) : Type 0 where
  pub same : IsSameHandle old.handle new.handle
  pub hints : KeepsHints old.handle new.handle
  pub begins : GoesOnFrom (seen_by old.handle) (seen_by new.handle)
  pub none : done_in (seen_by new.handle) old ≡ done_in (seen_by old.handle) old
  pub legal : IsLinearizable (first_map_of old.handle) (seen_by old.handle) → IsLinearizable (first_map_of old.handle) (seen_by new.handle)
  pub notes : NotesNone old new

-- The same handle has made no call.
pub record MakesNoCall (old new : NotingHandle) : Type 0 where
  pub same : IsSameHandle old.handle new.handle
  pub hints : KeepsHints old.handle new.handle
  pub kept : HasKeptUp old.handle new.handle

-- What it has seen now goes on from the one trail, and the other one goes on from that.
pub record HasMetBetween (low high : Trail) (old new : NotingHandle) : Type 0 where
  pub more : HasSeenMore old new
  pub begins : GoesOnFrom low (seen_by new.handle)
  pub ends : GoesOnFrom (seen_by new.handle) high

-- The first handle has met each of the others.
pub record MeetsEach (one one' : NotingHandle) (others others' : List NotingHandle) : Type 0 where
  pub mine : HasSeenMore one one'
  pub theirs : AllZip (HasMetBetween (seen_by one.handle) (seen_by one'.handle)) others others'

-- The trail goes on from what the handle had seen, and what it has seen now goes on from there.
pub record HasMet (now : Trail) (old new : NotingHandle) : Type 0 where
  pub more : HasSeenMore old new
  pub begins : GoesOnFrom (seen_by old.handle) now
  pub ends : GoesOnFrom now (seen_by new.handle)

-- All have met: the first one had come to some trail when it had met each of the others.
pub record HaveMet (one one' : NotingHandle) (others others' : List NotingHandle) : Type 0 where
  pub mid : NotingHandle
  pub before : HasSeenMore one mid
  pub behind : HasSeenMore mid one'
  pub theirs : AllZip (HasMet (seen_by mid.handle)) others others'

abbrev pub AreMet : List NotingHandle → List NotingHandle → Type 0
AreMet [] [] = Unit {0}
AreMet (one ∷ others) (one' ∷ others') = HaveMet one one' others others'
AreMet olds news = ⊥

-- both are of one map
abbrev pub AreOfOneMap : NotingHandle → NotingHandle → Type 0
AreOfOneMap one two = AreOfOne one.handle two.handle
