use Rattle.bl_index.proofs.Taken.{same_pass}
use Rattle.bl_index.proofs.index.Index.range.Goals as goal

pub returns-clause-same : goal.returns-clause-same
returns-clause-same c = rw (← c.pass.view_is) (same_pass c.pass.inside.hand c.gather.new.hand c.gather.ensures.same.0 c.gather.ensures.first)
