use Rattle.bl_index.proofs.Taken.{same_pass}
use Rattle.bl_index.proofs.index.Index.scan.Goals as goal

pub returns-clause-same : goal.returns-clause-same
returns-clause-same g c = rw (← c.pass.view_is) (same_pass c.pass.inside.hand c.give_parts.new.hand c.give_parts.ensures.same.0 c.give_parts.ensures.first)
