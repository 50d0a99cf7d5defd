-- A write that posts, of which a pass has no value.
use Rattle.std.specs.Prelude.{◌≡◌, ℕ, Option, Some}
use Rattle.bl_model.specs.Writes.{write_op}
use Rattle.bl_model.specs.declared.operation.Reply.{Reply}
use Rattle.bl_model.specs.declared.operation.Reply.TheVariants as reply
use Rattle.atomic_table.specs.declared.shared.Seat.{Seat}
use Rattle.bl_answers.specs.declared.answers.Answer.TheVariants as answer
use Rattle.bl_answers.specs.declared.answers.Hint.{Hint}
use Rattle.bl_answers.specs.declared.answers.Hint.TheVariants as hint
use Rattle.bl_answers.specs.declared.answers.Posted.{Posted}
use Rattle.bl_proc_writes.specs.declared.insert_post.InsertPost.{InsertPost}
use Rattle.bl_proc.specs.declared.kinds.Proc.{Proc}
use Rattle.bl_proc.specs.declared.kinds.Proc.TheVariants as proc
use Rattle.bl_proc_writes.specs.declared.paths.Path.{Path}
use Rattle.bl_proc_writes.specs.declared.post.PostReply.{PostReply}
use Rattle.bl_proc_writes.specs.declared.post.PostStage.{PostStage}
use Rattle.bl_proc_writes.specs.InsertPosts.{climb_answer_in}
use Rattle.bl_proc_writes.specs.Levels.{IsBelowTop, MayReply}
use Rattle.bl_proc_writes.specs.Stands.{IsPosting}
use Rattle.bl_proc_deterministic.specs.Frames.{op_of}
use Rattle.bl_store_rule.specs.declared.view.View.{View}
use Rattle.bl_store.specs.Hands.{known, HasNoStock}
use Rattle.bl_index_rule.specs.declared.known.PassState.{PassState}
use Rattle.bl_index_events.specs.Rooms.{LacksWrite, LacksPost}
use Rattle.bl_index_events.specs.Runs.{IsDone, IsSince, Rests}
use Rattle.bl_index_write.specs.declared.rising.Rising.{Rising}
use Rattle.bl_proc_writes.specs.declared.insert_post.Placing.{Placing}
use Rattle.bl_proc_writes.specs.Placings.{write_of}
use Rattle.bl_index_edit.specs.Insertions.{climb_posting, climb_posted}

-- one that posts, and one that has opened the parent to which it posted
abbrev pub rises : (j : Rising) → Path → (s : PostStage) → IsBelowTop j.level s → IsPosting s → Proc
rises j path = climb_posting j.insertion.key j.insertion.placing j.level j.separator j.least j.most path

abbrev pub rose : (j : Rising) → Path → (r : PostReply) → MayReply j.level r → Proc
rose j path = climb_posted j.insertion.key j.insertion.placing j.level j.separator path

-- The write with its posts has ended, and has answered that.
pub record HasClimbed (pass : ℕ) (old e : PassState) (key : ℕ) (placing : Placing) (said : Reply) (last : Option Posted) (left : Option Hint) : Type 0 where
  pub first : Proc
  pub op_is : op_of first ≡ Some (write_op key (write_of placing))
  pub over : InsertPost
  pub done : IsDone pass old e first (proc.InsertPost over)
  pub answer : climb_answer_in over.placing over.stage ≡ Some (answer.InsertPost said last left)

-- From there the write with its posts has gone on to its end, and has answered that.
pub record IsClimbOver (key : ℕ) (placing : Placing) (d : PassState) (h : Seat (Unit {0}) (View PassState)) (said : Reply) (last : Option Posted)
    (left : Option Hint) : Type 0 where
  pub rests : Rests h
  pub empty : HasNoStock h
  pub is_climbed : (pass : ℕ) (old : PassState) → IsSince pass old d → HasClimbed pass old (known h) key placing said last left
  pub no_room : said ≡ reply.NoRoom → LacksWrite key (write_of placing) h
  pub entered : (level separator : ℕ) → left ≡ Some (hint.Post level separator) → said ≡ reply.Inserted
  pub lacks : (level separator : ℕ) → left ≡ Some (hint.Post level separator) → LacksPost level separator h
