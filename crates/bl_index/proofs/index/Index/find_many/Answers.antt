use Rattle.bl_index.proofs.Taken.{same_pass}
use Rattle.bl_index.proofs.index.Index.find_many.Goals as goal

pub returns-clause-same : goal.returns-clause-same
returns-clause-same c = rw (← c.pass.view_is) (same_pass c.pass.inside.hand c.find_keys.new.hand c.find_keys.ensures.same.0 c.find_keys.ensures.first)
