-- How a post, and an insertion that posts, stand and go on at their parents, for the laws of `Poster` and `Target`.
use Rattle.std.proofs.Common.{Some, None, refl, ℕ, ◌≡◌, ◌<◌, ◌≤◌, inl, inr}
use Rattle.bl_proc_steps.specs.Given.{Gives}
use Rattle.bl_proc_steps.specs.declared.acts.Seen.{Seen}
use Rattle.bl_proc_steps.specs.declared.acts.Seen.TheVariants as seen
use Rattle.bl_proc_steps.specs.declared.edit.Edit.TheVariants as edit
use Rattle.bl_proc_steps.specs.declared.edit.Outcome.{Outcome}
use Rattle.bl_proc_steps.specs.declared.edit.Outcome.TheVariants as outcome
use Rattle.bl_proc_writes.specs.InsertPosts.{PostNotes}
use Rattle.bl_proc_writes.specs.Levels.{IsBelowTop, MayReply}
use Rattle.bl_proc_writes.specs.Posts.{post_answer_in, post_next_in, post_needs_in, post_reply}
use Rattle.bl_proc.specs.Processes.{Takes}
use Rattle.bl_proc_writes.specs.Stands.{IsPosting}
use Rattle.bl_proc_writes.specs.declared.insert_post.ClimbStage.TheVariants as climb
use Rattle.bl_proc_writes.specs.declared.paths.Path.{Path}
use Rattle.bl_proc_writes.specs.declared.post.PostReply.{PostReply}
use Rattle.bl_proc_writes.specs.declared.post.PostReply.TheVariants as reply
use Rattle.bl_proc_writes.specs.declared.post.PostStage.{PostStage}
use Rattle.bl_proc_writes.specs.declared.post.PostStage.TheVariants as post
use Rattle.bl_proc_deterministic.proofs.Climbs.{climb_goes}
use Rattle.bl_proc_deterministic.proofs.Posts.{post_goes}
use Rattle.bl_proc_deterministic.specs.Courses.{GoesOn}
use Rattle.bl_index_edit.proofs.AtLeaf.{unnoted}
use Rattle.bl_index_edit.specs.Insertions.{climb_posting, climb_posted}
use Rattle.bl_index_edit.specs.Posters.{IsAtParent, IsPoster, Opened, Staged, alone, alone_opened}
use Rattle.bl_proc_writes.specs.declared.insert_post.Placing.{Placing}

-- a post that has not ended has answered nothing
unanswered : (level : ℕ) (s : PostStage) → IsPosting s → post_answer_in level s ≡ None
unanswered level post.New i = absurd i
unanswered level (post.Coming a) i = refl
unanswered level (post.Growing g) i = refl
unanswered level (post.Walking w) i = refl
unanswered level (post.Editing c) i = refl
unanswered level (post.Staying x r) i = refl
unanswered level (post.Ending r) i = absurd i
unanswered level (post.Over r) i = absurd i

module _ (level key : ℕ) (least : 0 < level) (most : level ≤ 12) where
  pub posts_alone : IsPoster level key (alone level key least most) (alone_opened level key least most)
  posts_alone = record {
    least = least;
    most = most;
    acts = λ s b i at. refl;
    courses = λ s b i what at given. post_goes (record { level = level; key = key; stage = s; least = least; most = most; below = b }) what (unanswered level s i) given;
    goes = λ s t b c i k what at goes. (refl, refl, goes);
    stayed = λ x r b. (refl, refl, refl);
    listed = λ x o b may. (refl, refl, (o, refl, refl));
    held = λ s b i marks at held. held;
  }

-- At its parent an insertion that posts notes nothing.
posts_unnoted : (level key : ℕ) (s : PostStage) (what : Seen) (n : Path) → IsAtParent s → PostNotes level key s what n n
posts_unnoted level key post.New what n at = absurd at
posts_unnoted level key (post.Coming a) what n at = unnoted level key a what n at
posts_unnoted level key (post.Growing g) what n at = absurd at
posts_unnoted level key (post.Walking w) what n at = refl
posts_unnoted level key (post.Editing c) what n at = refl
posts_unnoted level key (post.Staying x r) what n at = refl
posts_unnoted level key (post.Ending r) what n at = absurd at
posts_unnoted level key (post.Over r) what n at = absurd at

-- It posts at its parent as a post does.
module _ (key : ℕ) (placing : Placing) (level separator : ℕ) (least : 0 < level) (most : level ≤ 12) (path : Path) where
  abbrev here : Staged level
  here = climb_posting key placing level separator least most path

  abbrev opened : Opened level
  opened = climb_posted key placing level separator path

  rising_courses : (s : PostStage) (b : IsBelowTop level s) (i : IsPosting s) (what : Seen) → Gives (post_next_in s) (post_needs_in s) what → GoesOn (here s b i) what
  rising_courses s b i what given =
      climb_goes (record { key = key; placing = placing; path = path; stage = climb.Posting (record { level = level; key = separator; stage = s; least = least; most = most; below = b }); stands = i }) what refl given

  rising_stayed : (x : ℕ) (r : PostReply) (b : MayReply level r) → Takes (here (post.Staying x r) b tt) seen.Done (opened r b)
  rising_stayed x (reply.Done None) b = (refl, refl, refl, (reply.Done None, refl, tt, refl))
  rising_stayed x (reply.Done (Some next)) b = (refl, refl, refl, inr (next, refl, (refl, refl, refl)))
  rising_stayed x reply.Already b = (refl, refl, refl, (reply.Already, refl, tt, refl))
  rising_stayed x reply.Stale b = (refl, refl, refl, (reply.Stale, refl, tt, refl))
  rising_stayed x reply.NoRoom b = (refl, refl, refl, (reply.NoRoom, refl, tt, refl))
  rising_stayed x reply.TooTall b = (refl, refl, refl, (reply.TooTall, refl, tt, refl))

  rising_listed : (x : ℕ) (o : Outcome) (b : level < 12) (may : MayReply level (post_reply o)) → Takes (here (post.Editing (edit.Opening x o)) b tt) seen.Done (opened (post_reply o) may)
  rising_listed x outcome.Edited b may = (refl, refl, refl, (reply.Done None, (outcome.Edited, refl, refl), tt, refl))
  rising_listed x (outcome.SplitAt next) b may = (refl, refl, refl, inr (next, (outcome.SplitAt next, refl, refl), (refl, refl, refl)))
  rising_listed x outcome.Refused b may = (refl, refl, refl, (reply.NoRoom, (outcome.Refused, refl, refl), tt, refl))

  pub posts_rising : IsPoster level separator (climb_posting key placing level separator least most path) (climb_posted key placing level separator path)
  posts_rising = record {
    least = least;
    most = most;
    acts = λ s b i at. refl;
    courses = λ s b i what at given. rising_courses s b i what given;
    goes = λ s t b c i k what at goes. (refl, refl, posts_unnoted level separator s what path at, inl ((refl, refl, goes), k));
    stayed = rising_stayed;
    listed = rising_listed;
    held = λ s b i marks at held. held;
  }
