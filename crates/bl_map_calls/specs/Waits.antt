-- Hints that wait for room.
use Rattle.std.specs.Prelude.{◌≡◌, ℕ, zero, suc, Option, List, []}
use Rattle.bl_model.specs.declared.operation.Op.{Op}
use Rattle.bl_model.specs.declared.operation.Reply.{Reply}
use Rattle.bl_page.specs.declared.page.Page.{Page}
use Rattle.bl_claims.specs.Trails.{Trail}
use Rattle.bl_answers.specs.declared.answers.Hint.{Hint}
use Rattle.bl_map_calls.specs.Works.{Swept}
use Rattle.bl_map_calls.specs.Follows.{Written, FollowsHints, KeptUp}
use Rattle.bl_waiting.specs.declared.waiting.Waiting.{Waiting}
use Rattle.bl_waiting.specs.Queue.{hints_of, IsKept, IsTaken}

-- A hint that is due, if there is one, was followed, with those that following it gave, as many as a tree has levels at most; and what is
-- left of them is kept.
abbrev pub FollowsAndKeeps : List (Option Page) → ℕ → Option Hint → Waiting → Waiting → Trail → Trail → Type 0
FollowsAndKeeps first pass due before after old new = (left : Option Hint) × FollowsHints first pass 12 due left old new × IsKept left before after

-- A key was written, and what this has left to do is done or kept.
pub record WritesKey (first : List (Option Page)) (pass : ℕ) (op : Op) (reply : Reply) (before after : Waiting) (old new : Trail) : Type 0 where
  pub hint : Option Hint
  pub behind : Trail
  pub mid : Trail
  pub written : Written first pass op reply hint old behind
  pub upkeep : FollowsAndKeeps first pass hint before after behind mid
  pub sweeps : Swept first pass mid new

-- The same of the oldest hint that waits, which waits no more.
pub record TriesOldest (first : List (Option Page)) (pass : ℕ) (before after : Waiting) (old new : Trail) : Type 0 where
  pub oldest : Option Hint
  pub others : Waiting
  pub taken : IsTaken oldest before others
  pub upkeep : FollowsAndKeeps first pass oldest others after old new

-- Hints that wait were tried, one after another: so many, or until none waited.
pub data AreTried (first : List (Option Page)) (pass : ℕ) : ℕ → Waiting → Waiting → Trail → Trail → Type 0 where
  AsMany : {waiting : Waiting} {old : Trail} → AreTried first pass zero waiting waiting old old
  NoneWaits : {most : ℕ} {waiting : Waiting} {old : Trail} → hints_of waiting ≡ [] → AreTried first pass most waiting waiting old old
  OneTried : {most : ℕ} {before waiting after : Waiting} {old mid new : Trail} → TriesOldest first pass before waiting old mid
      → AreTried first pass most waiting after mid new → AreTried first pass (suc most) before after old new

-- And then the pass has given back what was swapped out.
pub record TriesAgain (first : List (Option Page)) (pass most : ℕ) (before after : Waiting) (old new : Trail) : Type 0 where
  pub mid : Trail
  pub tried : AreTried first pass most before after old mid
  pub sweeps : Swept first pass mid new

-- The hints that wait were tried, and then the pass has swept and followed hints.
pub record Tidies (first : List (Option Page)) (pass : ℕ) (before after : Waiting) (old new : Trail) : Type 0 where
  pub mid : Trail
  pub tried : TriesAgain first pass 32 before after old mid
  pub keeps_up : KeptUp first pass mid new
