-- What the answer of an insertion that posts means: what it has written, and what became of its posts.
use Rattle.std.specs.Prelude.{◌≡◌, ℕ, ◌+◌, ◌++◌, Option, None, Some, ◌∷◌, Contains}
use Rattle.bl_model.specs.declared.operation.Reply.{Reply}
use Rattle.bl_model.specs.declared.operation.Reply.TheVariants.{Inserted}
use Rattle.bl_page.specs.Machine.Act.{Begin}
use Rattle.bl_claims.specs.Trails.{Mark, Trail}
use Rattle.bl_claims.specs.Meanings.{MeansDone}
use Rattle.bl_answers.specs.declared.answers.Hint.{Hint}
use Rattle.bl_answers.specs.declared.answers.Hint.TheVariants as hint
use Rattle.bl_answers.specs.declared.answers.Posted.{Posted}
use Rattle.bl_answers.specs.Hints.{left_hint}
use Rattle.bl_claims.specs.Hinted.{MeansWritten}
use Rattle.bl_claims.specs.Answers.{MeansPosted}

-- Posts one after the other, from the one of that key to that level on. Each is told of what the process did from the end of the one
-- before on, as if it had begun with that. Each but the last has listed its key and split the parent, and the next one is of that
-- separator, one level higher. The last one has that answer, and splits no parent; where it met no room, it is the hint.
pub data PostsUp (begin : Mark) (a : Posted) (left : Option Hint) : ℕ → ℕ → Trail → Type 0 where
  Last : (level key : ℕ) (marks : Trail) → MeansPosted level key a None (begin ∷ marks) → left ≡ left_hint level key a → PostsUp begin a left level key marks
  Higher : (level key separator : ℕ) (marks more : Trail) → MeansDone level key (Some separator) (begin ∷ marks)
      → PostsUp begin a left (level + 1) separator more → PostsUp begin a left level key (marks ++ more)

-- It has entered its pair and split its leaf at that separator, and has posted that.
pub record WroteAndPosted (a : Posted) (left : Option Hint) (marks : Trail) : Type 0 where
  pub begin : Mark
  pub begun : begin.event.act ≡ Begin
  pub first : Trail
  pub rest : Trail
  pub split : marks ≡ first ++ rest
  pub own : Contains first begin
  pub separator : ℕ
  pub wrote : MeansWritten Inserted (Some (hint.Post 1 separator)) first
  pub posts : PostsUp begin a left 1 separator rest

-- Where nothing was split, it is a write that leaves no hint.
abbrev pub MeansClimbed : Reply → Option Posted → Option Hint → Trail → Type 0
MeansClimbed reply None left marks = MeansWritten reply None marks × (left ≡ None)
MeansClimbed reply (Some a) left marks = (reply ≡ Inserted) × WroteAndPosted a left marks
