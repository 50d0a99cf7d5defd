-- The kind of an answer.
use Rattle.std.specs.Prelude.{Option, Some}
use Rattle.bl_model.specs.declared.operation.Reply.{Reply}
use Rattle.bl_model.specs.declared.operation.Reply.TheVariants as reply
use Rattle.bl_answers.specs.declared.answers.Answer.{Answer}
use Rattle.bl_answers.specs.declared.answers.Answer.TheVariants.{InsertPost}

-- a reply of an insertion or a put
abbrev pub IsOfInsertion : Reply → Type 0
IsOfInsertion reply.Inserted = Unit {0}
IsOfInsertion (reply.Present value) = Unit {0}
IsOfInsertion (reply.Replaced value) = Unit {0}
IsOfInsertion reply.NoRoom = Unit {0}
IsOfInsertion other = ⊥

-- the answer of a write that posts
abbrev pub IsClimbAnswer : Option Answer → Type 0
IsClimbAnswer (Some (InsertPost reply last left)) = IsOfInsertion reply
IsClimbAnswer other = ⊥
