use Rattle.std.proofs.Common.{sym, ◌∙◌}
use Rattle.std.proofs.lemmas.Bool.{false≢true}
use Rattle.bl_world.proofs.looking.retired_after.Goals as goal

pub returns-clause-releases : goal.returns-clause-releases
returns-clause-releases c = λ is. absurd (false≢true (sym c.if-is_act-2.false ∙ c.is_act-2.ensures.1 is))
