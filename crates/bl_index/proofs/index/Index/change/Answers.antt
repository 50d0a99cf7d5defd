use Rattle.std.proofs.Common.{Option, refl, subst}
use Rattle.bl_model.specs.declared.operation.Op.TheVariants.{Change}
use Rattle.bl_model.specs.Replies.{reply_of}
use Rattle.bl_answers.specs.declared.answers.Hint.{Hint}
use Rattle.bl_index.specs.Calls.{first_of, number_of, trail, Writes}
use Rattle.bl_index.proofs.Changes.{change_lacks}
use Rattle.bl_index.proofs.index.Index.change.Goals as goal

pub returns-clause-changes : goal.returns-clause-changes
returns-clause-changes g c =
    let e = c.write.ensures in let a = c.args in
    subst (λ (h : Option Hint). Writes (first_of a.self.now) (number_of a.pass.now) (Change a.key a.old a.new) (reply_of c.write.result.0) h (trail a.pass.now) (trail c.write.new.pass)) (e.unhinted a.old a.new refl) e.writes

pub returns-clause-no_room : goal.returns-clause-no_room
returns-clause-no_room g c = λ none. let a = c.args in change_lacks a.pass.now c.write.new.pass a.key a.old a.new (c.write.ensures.no_room none)
