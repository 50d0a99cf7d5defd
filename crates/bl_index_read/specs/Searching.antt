-- What a search tells the pass that makes it.
use Rattle.std.specs.Prelude.{Option, ◌≡◌, ◌≤◌, ◌<◌, ℕ, List, Result, IfOk, IfErr, Ok, Err}
use Rattle.bl_model.specs.declared.operation.Op.{Op}
use Rattle.bl_model.specs.declared.operation.Reply.{Reply}
use Rattle.bl_page.specs.declared.page.Page.{Page}
use Rattle.bl_claims.specs.Trails.{Trail, marks_of}
use Rattle.bl_claims.specs.Bounds.{gets_of, puts_near, most_gets, IsWithinBound}
use Rattle.bl_claims.specs.Latches.{OnlyLooks}
use Rattle.bl_claims.specs.Seeing.{name}
use Rattle.bl_index_events.specs.Answered.{Answers, SaysNothing}
use Rattle.bl_index_read.specs.declared.finding.OutOfTurns.{OutOfTurns}
use Rattle.bl_model.specs.declared.operation.KeyReply.{KeyReply}
use Rattle.bl_model.specs.Replies.{reply_of}

-- A search of an index of so many pages is answered, with a page for each of its turns at most. At every moment it had got no more
-- pages than its bound, and it has latched and written nothing.
pub record Finds (first : List (Option Page)) (pages pass turns : ℕ) (op : Op) (reply : Reply) (old new : Trail) : Type 0 where
  pub answers : Answers first pass op reply old new
  pub few : gets_of (name pass answers.number) new ≤ turns
  pub bounded : IsWithinBound pages (name pass answers.number) new
  pub looks : OnlyLooks (marks_of (name pass answers.number) new)

-- It ran out of so many turns and said nothing: it has got so many pages, which are fewer than its bound, and has latched and
-- written nothing.
pub record RunsOut (first : List (Option Page)) (pages pass turns : ℕ) (old new : Trail) : Type 0 where
  pub adds : SaysNothing first pass old new
  pub bounded : IsWithinBound pages (name pass adds.number) new
  pub gets : gets_of (name pass adds.number) new ≡ turns
  pub below : gets_of (name pass adds.number) new < most_gets pages (puts_near (name pass adds.number) new)
  pub looks : OnlyLooks (marks_of (name pass adds.number) new)

-- A search is answered, or runs out of turns.
pub record AnswersOrRunsOut (first : List (Option Page)) (pages pass turns : ℕ) (op : Op) (result : Result Reply OutOfTurns) (old new : Trail) : Type 0 where
  pub answered : IfOk result (λ reply. Finds first pages pass turns op reply old new)
  pub refused : IfErr result (λ fault. RunsOut first pages pass turns old new)

-- what a search of a key answers, as a reply of the map, or that it ran out of turns
abbrev pub found_of : Result KeyReply OutOfTurns → Result Reply OutOfTurns
found_of (Ok r) = Ok (reply_of r)
found_of (Err fault) = Err fault
