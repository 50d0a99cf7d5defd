-- What passes learn of each other. It is no event.
use Rattle.std.specs.Prelude.{◌≡◌, ℕ, List, Option}
use Rattle.bl_page.specs.declared.page.Page.{Page}
use Rattle.bl_claims.specs.Trails.{Trail, marks_of}
use Rattle.bl_store.specs.declared.store.Hand.{Hand}
use Rattle.bl_store.specs.Hands.{known, IsIdle, HasNoStock, IsSameHand}
use Rattle.bl_index_rule.specs.declared.known.PassState.{PassState}
use Rattle.bl_index_events.specs.Runs.{IsWithin}
use Rattle.bl_claims.specs.Seeing.{IsSeen, AreWithin, own, GoesOnFrom, name}

-- no process of the pass has done anything since
abbrev pub IsStill : ℕ → Trail → Trail → Type 0
IsStill pass old new = (number : ℕ) → marks_of (name pass number) new ≡ marks_of (name pass number) old

-- What the pass has seen begins with what both had seen, and has the entries and the events of these two passes that they knew, and no
-- others of theirs.
pub record Learns (pass other : ℕ) (old theirs new : Trail) : Type 0 where
  pub begins : GoesOnFrom old new
  pub begins_theirs : GoesOnFrom theirs new
  pub none : own pass new ≡ own pass old
  pub none_theirs : own other new ≡ own other theirs
  pub still : IsStill pass old new
  pub still_theirs : IsStill other theirs new

-- The pass has seen what the other has seen, which has no further entry and no further event of this pass.
pub record Hears (pass : ℕ) (old theirs new : Trail) : Type 0 where
  pub is : new ≡ theirs
  pub none : own pass new ≡ own pass old
  pub still : IsStill pass old new

-- Two passes have met: both have seen one trail, which an index may have. It begins with what each of them had seen, and has no
-- further entry and no further event of either.
pub record Meet (first : List (Option Page)) (one two : ℕ) (old_one old_two new_one new_two : Trail) : Type 0 where
  pub same : new_two ≡ new_one
  pub seen : IsSeen first new_one
  pub begins_one : GoesOnFrom old_one new_one
  pub begins_two : GoesOnFrom old_two new_one
  pub none_one : own one new_one ≡ own one old_one
  pub none_two : own two new_one ≡ own two old_two
  pub still_one : IsStill one old_one new_one
  pub still_two : IsStill two old_two new_one

-- The hand is the same one, outside a process still and with nothing reserved, and knows the same beginning of its index.
pub record StaysIdle (old new : Hand PassState) : Type 0 where
  pub same : IsSameHand old.seat new.seat
  pub idle : IsIdle new.seat
  pub empty : HasNoStock new.seat
  pub first : (known new.seat).first ≡ (known old.seat).first
  pub runs : (known new.seat).runs ≡ (known old.seat).runs
  pub within : IsWithin new.seat

-- of what the pass knew, what the other knows, and what the pass knows then
pub record Learned (pass other among : ℕ) (d e f : PassState) : Type 0 where
  pub learns : Learns pass other d.trail e.trail f.trail
  pub first : f.first ≡ d.first
  pub seen : IsSeen f.first f.trail
  pub within : AreWithin among f.trail
  pub runs : f.runs ≡ d.runs

abbrev pub learned : ℕ → ℕ → ℕ → PassState → PassState → PassState → Type 0
learned pass other among d e f = Learned pass other among d e f

pub record Heard (pass : ℕ) (d e f : PassState) : Type 0 where
  pub hears : Hears pass d.trail e.trail f.trail
  pub first : f.first ≡ d.first
  pub runs : f.runs ≡ d.runs

abbrev pub heard : ℕ → PassState → PassState → PassState → Type 0
heard pass d e f = Heard pass d e f
