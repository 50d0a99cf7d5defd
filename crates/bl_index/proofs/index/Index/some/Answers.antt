use Rattle.bl_index.proofs.Taken.{same_pass}
use Rattle.bl_index.proofs.index.Index.some.Goals as goal

pub returns-clause-same : goal.returns-clause-same
returns-clause-same c = rw (← c.pass.view_is) (same_pass c.pass.inside.hand c.give_some.new.hand c.give_some.ensures.same.0 c.give_some.ensures.first)
