use Rattle.bl_index_read.proofs.Setting.{near_off, far_off}
use Rattle.bl_index_read.proofs.leaf_ways.set_off.Goals as goal

pub returns-then-page-tree-clause-set_off : goal.returns-then-page-tree-clause-set_off
returns-then-page-tree-clause-set_off c = near_off _ _ _ c.args.sought c.args.key _ _ _ _ c.begin_near.ensures.observed c.probe.ensures.looked c.probe.ensures.runs

pub returns-clause-set_off : goal.returns-clause-set_off
returns-clause-set_off c = far_off _ _ _ c.args.sought c.args.key _ c.begin_far.ensures.observed c.begin_far.ensures.runs
