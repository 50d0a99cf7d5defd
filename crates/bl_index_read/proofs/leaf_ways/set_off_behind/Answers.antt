use Rattle.bl_index_read.proofs.Setting.{near_off, far_off}
use Rattle.bl_index_read.proofs.leaf_ways.set_off_behind.Goals as goal

pub returns-then-link-tree-clause-set_off : goal.returns-then-link-tree-clause-set_off
returns-then-link-tree-clause-set_off c =
    let observed = c.renew_near.ensures.observed in
    (observed.0, observed.1, near_off _ _ _ c.args.sought c.args.key _ _ _ _ observed.2 c.probe.ensures.looked c.probe.ensures.runs)

pub returns-clause-set_off : goal.returns-clause-set_off
returns-clause-set_off c =
    let observed = c.renew_far.ensures.observed in
    (observed.0, observed.1, far_off _ _ _ c.args.sought c.args.key _ observed.2 c.renew_far.ensures.runs)
