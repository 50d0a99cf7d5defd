-- A call of a pass that is one process, begun and ended within it.
use Rattle.std.specs.Prelude.{◌≡◌, ℕ, ◌++◌, Option, Some, None, List, [], ◌∷◌}
use Rattle.bl_model.specs.declared.operation.Op.{Op}
use Rattle.bl_model.specs.declared.operation.Reply.{Reply}
use Rattle.bl_page.specs.declared.page.Page.{Page}
use Rattle.bl_claims.specs.Trails.{Trail, marks_of}
use Rattle.bl_claims.specs.Meanings.{writes_of}
use Rattle.bl_claims.specs.Seeing.{IsLinearizable, own, Holds, name}
use Rattle.bl_index_rule.specs.declared.known.PassState.{PassState}

-- The process of a call, whose events stand in what is new of the trail, answered that, and what it did is so.
pub record InCall (pass : ℕ) (answer : Option Reply) (old new : Trail) (IsSo : Trail → Type 0) : Type 0 where
  pub number : ℕ
  pub holds : Holds (name pass number) answer old new
  pub is : IsSo (marks_of (name pass number) new)

-- A call of the pass is answered: it is one process, begun and ended after all that the pass had seen, and the pass has done
-- nothing else since. What the pass has seen then is linearizable, and its only new entry of this pass is this operation with this
-- reply.
pub record Answers (first : List (Option Page)) (pass : ℕ) (op : Op) (reply : Reply) (old new : Trail) : Type 0 where
  pub number : ℕ
  pub holds : Holds (name pass number) (Some reply) old new
  pub seen : IsLinearizable first new
  pub once : own pass new ≡ own pass old ++ record { pass = pass; op = op; reply = reply } ∷ []

-- The same of a call that says nothing of the map.
pub record SaysNothing (first : List (Option Page)) (pass : ℕ) (old new : Trail) : Type 0 where
  pub number : ℕ
  pub holds : Holds (name pass number) None old new
  pub seen : IsLinearizable first new
  pub none : own pass new ≡ own pass old

-- it has written nothing
abbrev pub WritesNothing : Trail → Type 0
WritesNothing marks = writes_of marks ≡ []

-- The call of the pass was not done: its process has given up, has said nothing, and leaves no more than that.
pub record Undone (Left : Trail → Type 0) (pass : ℕ) (old e : PassState) : Type 0 where
  pub says : SaysNothing old.first pass old.trail e.trail
  pub left : Left (marks_of (name pass says.number) e.trail)
