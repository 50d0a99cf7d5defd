-- What becomes of the hints that calls leave.
use Rattle.std.specs.Prelude.{◌≡◌, ◌≢◌, ℕ, zero, suc, Option, Some, None, List}
use Rattle.bl_model.specs.declared.operation.Op.{Op}
use Rattle.bl_model.specs.declared.operation.Op.TheVariants as op
use Rattle.bl_model.specs.declared.operation.Reply.{Reply}
use Rattle.bl_page.specs.declared.page.Page.{Page}
use Rattle.bl_claims.specs.Trails.{Trail}
use Rattle.bl_answers.specs.declared.answers.Hint.{Hint}
use Rattle.bl_answers.specs.declared.answers.Hint.TheVariants as hint
use Rattle.bl_answers.specs.declared.answers.Posted.{Posted}
use Rattle.bl_answers.specs.declared.answers.Posted.TheVariants as posted
use Rattle.bl_answers.specs.declared.answers.Squeezed.{Squeezed}
use Rattle.bl_answers.specs.declared.answers.Squeezed.TheVariants as squeezed
use Rattle.bl_answers.specs.declared.answers.Lowered.{Lowered}
use Rattle.bl_answers.specs.declared.answers.Lowered.TheVariants as lowered
use Rattle.bl_index.specs.Calls.{Writes, Climbs, Posts, Compresses, LowersTree, Sweeps}
use Rattle.bl_map_calls.specs.declared.upkeep.Followed.{Followed}
use Rattle.bl_map_calls.specs.declared.upkeep.Followed.TheVariants as followed
use Rattle.bl_map_calls.specs.Works.{Swept}

-- A call that writes a key was answered so, and has left this hint: an insertion or a put has posted what it split, and its hint is the
-- post that met no room.
abbrev pub Makes : List (Option Page) → ℕ → Op → Reply → Option Hint → Trail → Trail → Type 0
Makes first pass (op.Insert key value) reply next old new = (last : Option Posted) × Climbs first pass (op.Insert key value) reply last next old new
Makes first pass (op.Put key value) reply next old new = (last : Option Posted) × Climbs first pass (op.Put key value) reply last next old new
Makes first pass op reply next old new = Writes first pass op reply next old new

-- how many top levels a compression may have left that are not needed, by its answer: all but one, where it has merged two children or has
-- found one alone
abbrev pub may_fall : Squeezed → ℕ
may_fall squeezed.Merged = 11
may_fall squeezed.Alone = 11
may_fall answer = 0

-- Top levels were taken away, so many at most: each time the pass swept while it lacked frames, and made a call, and it stopped at the
-- first call that has taken none away.
pub data Lowers (first : List (Option Page)) (pass : ℕ) : ℕ → Trail → Trail → Type 0 where
  NoMore : {old : Trail} → Lowers first pass zero old old
  OneTaken : {most : ℕ} {old mid next new : Trail} → Swept first pass old mid → LowersTree first pass lowered.Lowered mid next
      → Lowers first pass most next new → Lowers first pass (suc most) old new
  NoneTaken : {most : ℕ} {answer : Lowered} {old mid new : Trail} → Swept first pass old mid → answer ≢ lowered.Lowered
      → LowersTree first pass answer mid new → Lowers first pass (suc most) old new

-- A piece of upkeep, with what it has left: the pass swept while it lacked frames, and posted or compressed, as the hint asks. That is done,
-- and has left a next hint, or there was no room for it. Behind a compression top levels were taken away that were not needed.
pub data FollowsHint (first : List (Option Page)) (pass : ℕ) : Hint → Followed → Trail → Trail → Type 0 where
  PostDone : {level key : ℕ} {answer : Posted} {next : Option Hint} {old mid new : Trail} → Swept first pass old mid → answer ≢ posted.NoRoom
      → Posts first pass level key answer next mid new → FollowsHint first pass (hint.Post level key) (followed.Done next) old new
  PostRefused : {level key : ℕ} {old mid new : Trail} → Swept first pass old mid → Posts first pass level key posted.NoRoom None mid new
      → FollowsHint first pass (hint.Post level key) followed.NoRoom old new
  CompressionDone : {level key : ℕ} {answer : Squeezed} {next : Option Hint} {old mid last new : Trail} → Swept first pass old mid
      → answer ≢ squeezed.NoRoom → Compresses first pass level key answer next mid last → Lowers first pass (may_fall answer) last new
      → FollowsHint first pass (hint.Thin level key) (followed.Done next) old new
  CompressionRefused : {level key : ℕ} {old mid new : Trail} → Swept first pass old mid
      → Compresses first pass level key squeezed.NoRoom None mid new → FollowsHint first pass (hint.Thin level key) followed.NoRoom old new

-- The pass has swept and followed hints, one after another, as often as it may be, and has done nothing else.
pub data KeptUp (first : List (Option Page)) (pass : ℕ) : Trail → Trail → Type 0 where
  NothingDone : {old : Trail} → KeptUp first pass old old
  ThenSwept : {old mid new : Trail} {answer : ℕ} → KeptUp first pass old mid → Sweeps first pass answer mid new → KeptUp first pass old new
  ThenFollowed : {old mid new : Trail} {hint : Hint} {result : Followed} → KeptUp first pass old mid → FollowsHint first pass hint result mid new
      → KeptUp first pass old new

-- A key was written: the pass looked for room, by sweeps and by hints of thin pages, and then a call of it was answered so, with this hint.
pub record Written (first : List (Option Page)) (pass : ℕ) (op : Op) (reply : Reply) (next : Option Hint) (old new : Trail) : Type 0 where
  pub mid : Trail
  pub readies : KeptUp first pass old mid
  pub makes : Makes first pass op reply next mid new

-- The hint that a call has left, if there is one, was followed, and those that following it gave, one after another, so many at most: until
-- none was left, or this one, for which there was no room, or which is left behind so many.
pub data FollowsHints (first : List (Option Page)) (pass : ℕ) : ℕ → Option Hint → Option Hint → Trail → Trail → Type 0 where
  NoneLeft : {most : ℕ} {old : Trail} → FollowsHints first pass most None None old old
  OneTooMany : {hint : Hint} {old : Trail} → FollowsHints first pass zero (Some hint) (Some hint) old old
  OneRefused : {most : ℕ} {hint : Hint} {old new : Trail} → FollowsHint first pass hint followed.NoRoom old new
      → FollowsHints first pass (suc most) (Some hint) (Some hint) old new
  OneDone : {most : ℕ} {hint : Hint} {next left : Option Hint} {old mid new : Trail} → FollowsHint first pass hint (followed.Done next) old mid
      → FollowsHints first pass most next left mid new → FollowsHints first pass (suc most) (Some hint) left old new

-- The hint of a split was followed so. That of a thin page is left.
abbrev pub FollowsSplit : List (Option Page) → ℕ → Option Hint → Option Hint → Trail → Trail → Type 0
FollowsSplit first pass None left old new = FollowsHints first pass 12 None left old new
FollowsSplit first pass (Some (hint.Post level key)) left old new = FollowsHints first pass 12 (Some (hint.Post level key)) left old new
FollowsSplit first pass (Some (hint.Thin level key)) left old new = (left ≡ Some (hint.Thin level key)) × (new ≡ old)

-- A key was written, and the hint of a split that this has left was followed. What is left then is left.
pub record WritesLeaving (first : List (Option Page)) (pass : ℕ) (op : Op) (reply : Reply) (left : Option Hint) (old new : Trail) : Type 0 where
  pub hint : Option Hint
  pub mid : Trail
  pub written : Written first pass op reply hint old mid
  pub follows : FollowsSplit first pass hint left mid new
