-- What calls promise that wait for nothing: each is done, or is given up, and then nothing of it is left.
use Rattle.std.specs.Prelude.{◌≡◌, ◌≢◌, ◌⊎◌, ◌+◌, ◌<◌, ◌≤◌, ℕ, suc, max, Bool, true, false, Option, None, Some, List, []}
use Rattle.bl_model.specs.declared.operation.Op.{Op}
use Rattle.bl_model.specs.declared.operation.Reply.{Reply}
use Rattle.bl_page.specs.declared.page.Page.{Page}
use Rattle.bl_claims.specs.Trails.{Trail}
use Rattle.bl_claims.specs.Meanings.{HasRaised}
use Rattle.bl_answers.specs.declared.answers.Hint.{Hint}
use Rattle.bl_answers.specs.declared.answers.Hint.TheVariants as hint
use Rattle.bl_answers.specs.declared.answers.Squeezed.{Squeezed}
use Rattle.bl_answers.specs.declared.answers.Squeezed.TheVariants as squeezed
use Rattle.bl_waiting.specs.declared.waiting.Waiting.{Waiting}
use Rattle.bl_waiting.specs.Queue.{hints_of, IsKept, IsTaken}
use Rattle.bl_index_events.specs.Answered.{WritesNothing}
use Rattle.bl_index.specs.Calls.{Writes, Compresses, GivesUp}
use Rattle.bl_map_calls.specs.declared.upkeep.Followed.{Followed}
use Rattle.bl_map_calls.specs.declared.upkeep.Followed.TheVariants as followed
use Rattle.bl_map_tries.specs.declared.walking.Walk.{Walk}
use Rattle.bl_map_calls.specs.Works.{Swept}
use Rattle.bl_map_calls.specs.Follows.{may_fall, Lowers, FollowsHint}

-- what a piece of upkeep leaves that was given up: nothing, or new top levels where it was a post
abbrev pub LeftBy : Hint → Trail → Type 0
LeftBy (hint.Post level key) = HasRaised level
LeftBy (hint.Thin level key) = WritesNothing

-- Fewer top levels were taken away than so many, and the next lowering was given up.
pub record StopsLowering (first : List (Option Page)) (pass most : ℕ) (old new : Trail) : Type 0 where
  pub taken : ℕ
  pub few : taken < most
  pub mid : Trail
  pub last : Trail
  pub lowers : Lowers first pass taken old mid
  pub swept : Swept first pass mid last
  pub gives_up : GivesUp WritesNothing first pass last new

-- what is left behind a compression whose lowering was given up: its hint, or else the piece itself, which comes to the lowering again
abbrev pub left_behind : Option Hint → Hint → Option Hint
left_behind None piece = Some piece
left_behind (Some next) piece = Some next

-- A piece of upkeep was tried: it was followed, and is done or found no room; or it was given up. A compression is done also where a lowering
-- behind it was given up, and leaves something then.
pub data TriesHint (first : List (Option Page)) (pass : ℕ) : Hint → Option Followed → Trail → Trail → Type 0 where
  WasFollowed : {hint : Hint} {result : Followed} {old new : Trail} → FollowsHint first pass hint result old new → TriesHint first pass hint (Some result) old new
  WasGivenUp : {hint : Hint} {old mid new : Trail} → Swept first pass old mid → GivesUp (LeftBy hint) first pass mid new → TriesHint first pass hint None old new
  HasNotLowered : {level key : ℕ} {answer : Squeezed} {next : Option Hint} {old mid last new : Trail} → Swept first pass old mid
      → answer ≢ squeezed.NoRoom → Compresses first pass level key answer next mid last → StopsLowering first pass (may_fall answer) last new
      → TriesHint first pass (hint.Thin level key) (Some (followed.Done (left_behind next (hint.Thin level key)))) old new

-- What is left of a piece that was tried: what following it has left; or this, where it found no room or was given up.
abbrev pub left_of : Option Hint → Option Followed → Option Hint
left_of otherwise (Some (followed.Done next)) = next
left_of otherwise (Some followed.NoRoom) = otherwise
left_of otherwise None = otherwise

-- The oldest piece that waits was tried, and what is left of it, or else itself, waits behind the others; or nothing waits, and nothing was
-- done.
pub data TriesNext (first : List (Option Page)) (pass : ℕ) : Option Followed → Waiting → Waiting → Trail → Trail → Type 0 where
  NothingWaits : {waiting : Waiting} {old : Trail} → hints_of waiting ≡ [] → TriesNext first pass (Some (followed.Done None)) waiting waiting old old
  OldestTried : {hint : Hint} {result : Option Followed} {before after : Waiting} {old new : Trail} (others : Waiting) → IsTaken (Some hint) before others
      → TriesHint first pass hint result old new → IsKept (left_of (Some hint) result) others after → TriesNext first pass result before after old new

-- whether a piece that was tried is done
abbrev pub is_done : Option Followed → Bool
is_done (Some (followed.Done next)) = true
is_done (Some followed.NoRoom) = false
is_done None = false

-- Pieces that wait were tried, the oldest first: so many, or until none waited, or until one was not done.
pub data TriesPieces (first : List (Option Page)) (pass : ℕ) : ℕ → Waiting → Waiting → Trail → Trail → Type 0 where
  AsManyDone : {waiting : Waiting} {old : Trail} → TriesPieces first pass 0 waiting waiting old old
  NoneWaits : {most : ℕ} {waiting : Waiting} {old : Trail} → hints_of waiting ≡ [] → TriesPieces first pass most waiting waiting old old
  OneDone : {most : ℕ} {result : Option Followed} {before waiting after : Waiting} {old mid new : Trail} → is_done result ≡ true
      → TriesNext first pass result before waiting old mid → TriesPieces first pass most waiting after mid new → TriesPieces first pass (suc most) before after old new
  OneNotDone : {most : ℕ} {result : Option Followed} {before after : Waiting} {old new : Trail} → is_done result ≡ false
      → TriesNext first pass result before after old new → TriesPieces first pass (suc most) before after old new

-- Pieces that were found were tried, so many at most. What following one has left waits.
pub data Mends (first : List (Option Page)) (pass : ℕ) : ℕ → Waiting → Waiting → Trail → Trail → Type 0 where
  NoneFound : {most : ℕ} {waiting : Waiting} {old : Trail} → Mends first pass most waiting waiting old old
  OneFound : {most : ℕ} {hint : Hint} {result : Option Followed} {before waiting after : Waiting} {old mid new : Trail}
      → TriesHint first pass hint result old mid → IsKept (left_of None result) before waiting → Mends first pass most waiting after mid new
      → Mends first pass (suc most) before after old new

-- Before a write the pass has swept, tried 16 pieces at most that waited, swept for what it lacked, and tried 16 at most that it found.
pub record LooksForRoom (first : List (Option Page)) (pass : ℕ) (before after : Waiting) (old new : Trail) : Type 0 where
  pub swept : Trail
  pub tried : Trail
  pub looked : Trail
  pub waiting : Waiting
  pub sweeps : Swept first pass old swept
  pub tries : TriesPieces first pass 16 before waiting swept tried
  pub looks : Swept first pass tried looked
  pub mends : Mends first pass 16 waiting after looked new

-- A write is refused for want of room, once more in a row and 32,768 times at most.
abbrev pub IsRefused : Walk → Walk → Type 0
IsRefused old new = (old.refused < new.refused) × (new.refused ≤ 32768)

-- A key was written: the pass looked for room, and then one call of it was answered so. What this has left to do waits.
pub record WritesAtOnce (first : List (Option Page)) (pass : ℕ) (op : Op) (reply : Reply) (before after : Waiting) (old new : Trail) : Type 0 where
  pub hint : Option Hint
  pub waiting : Waiting
  pub mid : Trail
  pub looks : LooksForRoom first pass before waiting old mid
  pub writes : Writes first pass op reply hint mid new
  pub kept : IsKept hint waiting after

-- None was: the pass looked for room, and then the write was refused, and nothing more was done; or it was given up.
pub record WritesNone (first : List (Option Page)) (pass : ℕ) (refused : Type 0) (before after : Waiting) (old new : Trail) : Type 0 where
  pub mid : Trail
  pub looks : LooksForRoom first pass before after old mid
  pub undone : (refused × (new ≡ mid)) ⊎ GivesUp WritesNothing first pass mid new

-- Nothing waits, no walk over pages is underway, and no piece was dropped since the last one began.
abbrev pub HasNothingToDo : Walk → Waiting → Type 0
HasNothingToDo walk waiting = (hints_of waiting ≡ []) × (walk.next ≡ 0) × (walk.dropped ≡ waiting.dropped)

-- Nothing waits, and pages are to be looked at for the pieces that were dropped.
abbrev pub IsDue : Walk → Waiting → Type 0
IsDue walk waiting = (hints_of waiting ≡ []) × (HasNothingToDo walk waiting → ⊥)

-- A walk over so many pages has gone on, from the first one where none was underway: by one page at least and by 4,096 at most; or to the end of
-- all, and it is over. If it has begun, it knows how many pieces were dropped before. It forgets no refusal.
pub record WalksOn (pages : ℕ) (waiting : Waiting) (old new : Walk) : Type 0 where
  pub reached : ((max 1 old.next < new.next) × (new.next < pages) × (new.next ≤ max 1 old.next + 4096)) ⊎ ((new.next ≡ 0) × (pages ≤ max 1 old.next + 4096))
  pub begun : old.next ≡ 0 → new.dropped ≡ waiting.dropped
  pub goes : 0 < old.next → new.dropped ≡ old.dropped
  pub refused : old.refused ≤ new.refused

-- Where the walk is due it went on, and 16 pieces at most that it found were tried; else nothing was done.
abbrev pub LooksOn : List (Option Page) → ℕ → ℕ → Waiting → Waiting → Walk → Walk → Trail → Trail → Type 0
LooksOn first pages pass before after walk walk' old new = (IsDue walk before × WalksOn pages before walk walk' × Mends first pass 16 before after old new)
    ⊎ ((IsDue walk before → ⊥) × (after ≡ before) × (walk' ≡ walk) × (new ≡ old))

-- Upkeep was done: pieces that wait were tried, so many; and then, if none waited, the walk went on for those that were dropped.
pub record KeepsUp (first : List (Option Page)) (pages pass most : ℕ) (before after : Waiting) (walk walk' : Walk) (old new : Trail) : Type 0 where
  pub waiting : Waiting
  pub mid : Trail
  pub tries : TriesPieces first pass most before waiting old mid
  pub looks : LooksOn first pages pass waiting after walk walk' mid new
