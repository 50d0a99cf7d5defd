-- A process of which a pass has no value: it knows where the process stands.
use Rattle.std.specs.Prelude.{◌≡◌, ◌≢◌, ℕ, Option, Some, None}
use Rattle.atomic_table.specs.declared.shared.Seat.{Seat}
use Rattle.bl_model.specs.declared.deciding.KeyWrite.{KeyWrite}
use Rattle.bl_store_rule.specs.declared.view.View.{View}
use Rattle.bl_store.specs.declared.store.Hand.{Hand}
use Rattle.bl_store.specs.Hands.{known, HasNoStock}
use Rattle.bl_proc_steps.specs.declared.acts.Action.TheVariants as act
use Rattle.bl_proc_steps.specs.declared.growth.Growth.TheVariants.{Latching}
use Rattle.bl_answers.specs.declared.answers.Answer.TheVariants as answer
use Rattle.bl_answers.specs.declared.answers.Hint.{Hint}
use Rattle.bl_answers.specs.declared.answers.Posted.{Posted}
use Rattle.bl_proc_writes.specs.declared.writing.WriteStage.{WriteStage}
use Rattle.bl_proc_writes.specs.declared.writing.WriteStage.TheVariants as write
use Rattle.bl_proc_writes.specs.declared.writing.WriteReply.{WriteReply}
use Rattle.bl_proc_writes.specs.Writes.{write_answer}
use Rattle.bl_proc_writes.specs.declared.post.Post.{Post}
use Rattle.bl_proc_writes.specs.declared.post.PostStage.{PostStage}
use Rattle.bl_proc_writes.specs.declared.post.PostStage.TheVariants as post
use Rattle.bl_proc_writes.specs.Levels.{IsBelowTop}
use Rattle.bl_proc.specs.declared.kinds.Proc.{Proc}
use Rattle.bl_proc.specs.declared.kinds.Proc.TheVariants as proc
use Rattle.bl_proc.specs.Processes.{answer_of, next_of}
use Rattle.bl_proc_deterministic.specs.Refusals.{IsRefused, PutsRefused}
use Rattle.bl_index_rule.specs.declared.known.PassState.{PassState}
use Rattle.bl_index_write.specs.declared.targets.Posting.{Posting}
use Rattle.bl_index_descend.specs.Events.{HoldsNone}
use Rattle.bl_index_events.specs.Runs.{IsSince, IsDone, Rests, Runs, HasReserved}
use Rattle.bl_index_events.specs.declared.tree.Tree.{Tree}
use Rattle.bl_index_events.specs.Rooms.{LacksPost}
use Rattle.bl_answers.specs.declared.answers.Posted.TheVariants as posted
use Rattle.bl_answers.specs.declared.answers.Answer.{Answer}

-- a write of that key that has come so far
abbrev pub writing : ℕ → KeyWrite → WriteStage → Proc
writing key does stage = proc.Write (record { key = key; write = does; stage = stage })

-- The write has ended, and has answered that.
pub record HasWritten (pass : ℕ) (old e : PassState) (key : ℕ) (does : KeyWrite) (said : Answer) : Type 0 where
  pub reply : WriteReply
  pub done : IsDone pass old e (writing key does write.New) (writing key does (write.Over reply))
  pub answer : write_answer does reply ≡ said

-- The post that began as first has ended, and has answered that.
pub record HasPosted (pass : ℕ) (old e : PassState) (first : Proc) (what : Posted) (hint : Option Hint) : Type 0 where
  pub last : Post
  pub done : IsDone pass old e first (proc.Post last)
  pub answer : answer_of (proc.Post last) ≡ Some (answer.Post what hint)

-- a post that has come so far
abbrev pub posting : (j : Posting) (stage : PostStage) → IsBelowTop j.level stage → Proc
posting j stage below = proc.Post (record { level = j.level; key = j.key; stage = stage; least = j.least; most = j.most; below = below })

-- The post has ended, and has answered that.
pub record IsPostOver (j : Posting) (d : PassState) (h : Seat (Unit {0}) (View PassState)) (what : Posted) (hint : Option Hint) : Type 0 where
  pub rests : Rests h
  pub empty : HasNoStock h
  pub no_room : what ≡ posted.NoRoom → LacksPost j.level j.key h
  pub is_posted : (pass : ℕ) (old : PassState) → IsSince pass old d → HasPosted pass old (known h) (posting j post.New tt) what hint

-- It holds no page: it is on its way, is to latch the anchor for a new top level, or is to end.
abbrev pub IsOutside : PostStage → Type 0
IsOutside (post.Coming a) = HoldsNone a
IsOutside (post.Growing Latching) = Unit {0}
IsOutside (post.Ending r) = Unit {0}
IsOutside stage = ⊥

-- The post of that key to that level is underway, and holds no page: the hand runs it, has reserved nothing, and was refused nothing.
pub record IsPostUnderway (tree : Tree) (hand : Hand PassState) (level key : ℕ) (p : Post) : Type 0 where
  pub level_is : p.level ≡ level
  pub key_is : p.key ≡ key
  pub runs : Runs tree hand (proc.Post p)
  pub going : (answer_of (proc.Post p) ≡ None) × (next_of (proc.Post p) ≢ act.Begin)
  pub reserved : HasReserved hand.seat None (proc.Post p)
  pub free : (IsRefused (proc.Post p) → ⊥) × (PutsRefused (proc.Post p) → ⊥)
  pub outside : IsOutside p.stage

-- the answer of a post
abbrev pub IsPostAnswer : Option Answer → Type 0
IsPostAnswer None = ⊥
IsPostAnswer (Some (answer.Op reply hint)) = ⊥
IsPostAnswer (Some (answer.Post what hint)) = Unit {0}
IsPostAnswer (Some (answer.Reclaim what)) = ⊥
IsPostAnswer (Some (answer.Compress what hint)) = ⊥
IsPostAnswer (Some (answer.Lower what)) = ⊥
IsPostAnswer (Some (answer.InsertPost reply last hint)) = ⊥
