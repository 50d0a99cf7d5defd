-- Who posts at a parent that it holds: a post, or an insertion that posts what it splits, which is one as long as it is there.
use Rattle.std.specs.Prelude.{◌≡◌, ◌<◌, ◌≤◌, ℕ}
use Rattle.bl_claims.specs.Trails.{Trail}
use Rattle.bl_proc_steps.specs.declared.acts.Seen.{Seen}
use Rattle.bl_proc_steps.specs.declared.acts.Seen.TheVariants as seen
use Rattle.bl_proc_steps.specs.declared.edit.Edit.TheVariants as edit
use Rattle.bl_proc_steps.specs.declared.edit.Outcome.{Outcome}
use Rattle.bl_proc_steps.specs.Given.{Gives}
use Rattle.bl_proc.specs.declared.kinds.Proc.{Proc}
use Rattle.bl_proc.specs.declared.kinds.Proc.TheVariants as proc
use Rattle.bl_proc_writes.specs.declared.post.PostReply.{PostReply}
use Rattle.bl_proc_writes.specs.declared.post.PostStage.{PostStage}
use Rattle.bl_proc_writes.specs.declared.post.PostStage.TheVariants.{New, Coming, Growing, Walking, Editing, Staying, Ending, Over}
use Rattle.bl_proc_writes.specs.Levels.{IsBelowTop, MayReply}
use Rattle.bl_proc_writes.specs.Posts.{post_next_in, post_needs_in, post_reply, PostGoes}
use Rattle.bl_proc.specs.Processes.{next_of, Takes}
use Rattle.bl_proc_writes.specs.Stands.{IsPosting}
use Rattle.bl_proc_deterministic.specs.Courses.{GoesOn}
use Rattle.bl_index_events.specs.Held.{proc_held, post_held}
use Rattle.bl_index_descend.specs.Ways.{IsToHold}

-- the process whose post to that level has come so far
abbrev pub Staged : ℕ → Type 0
Staged level = (s : PostStage) → IsBelowTop level s → IsPosting s → Proc

-- the process that has opened its parent, by what the post replies
abbrev pub Opened : ℕ → Type 0
Opened level = (r : PostReply) → MayReply level r → Proc

-- a post that has come so far, and one that has opened its parent
abbrev pub alone : (level key : ℕ) → 0 < level → level ≤ 12 → Staged level
alone level key least most s b i = proc.Post (record { level = level; key = key; stage = s; least = least; most = most; below = b })

abbrev pub alone_opened : (level key : ℕ) → 0 < level → level ≤ 12 → Opened level
alone_opened level key least most r may = proc.Post (record { level = level; key = key; stage = Ending r; least = least; most = most; below = may })

-- it is to latch its parent, or holds it
abbrev pub IsAtParent : PostStage → Type 0
IsAtParent New = ⊥
IsAtParent (Coming a) = IsToHold a
IsAtParent (Growing g) = ⊥
IsAtParent (Walking w) = Unit {0}
IsAtParent (Editing c) = Unit {0}
IsAtParent (Staying x r) = Unit {0}
IsAtParent (Ending r) = ⊥
IsAtParent (Over r) = ⊥

-- As long as it holds its parent such a process does what a post of that key to that level does, and goes on as one. Then it is what it
-- is when it has opened its parent, by what the post replies.
pub record IsPoster (level key : ℕ) (staged : Staged level) (opened : Opened level) : Type 0 where
  pub least : 0 < level
  pub most : level ≤ 12
  pub acts : (s : PostStage) (b : IsBelowTop level s) (i : IsPosting s) → IsAtParent s → next_of (staged s b i) ≡ post_next_in s
  pub courses : (s : PostStage) (b : IsBelowTop level s) (i : IsPosting s) (what : Seen) → IsAtParent s
      → Gives (post_next_in s) (post_needs_in s) what → GoesOn (staged s b i) what
  pub goes : (s t : PostStage) (b : IsBelowTop level s) (c : IsBelowTop level t) (i : IsPosting s) (k : IsPosting t) (what : Seen) → IsAtParent s
      → PostGoes level key s what t → Takes (staged s b i) what (staged t c k)
  pub stayed : (x : ℕ) (r : PostReply) (b : MayReply level r) → Takes (staged (Staying x r) b tt) seen.Done (opened r b)
  pub listed : (x : ℕ) (o : Outcome) (b : level < 12) (may : MayReply level (post_reply o))
      → Takes (staged (Editing (edit.Opening x o)) b tt) seen.Done (opened (post_reply o) may)
  pub held : (s : PostStage) (b : IsBelowTop level s) (i : IsPosting s) (marks : Trail) → IsAtParent s → proc_held (staged s b i) marks
      → post_held level key s marks
