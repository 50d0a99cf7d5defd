use Rattle.bl_index_read.proofs.Setting.{near_off, far_off}
use Rattle.bl_index_read.proofs.Keeping.{still_on}
use Rattle.bl_index_read.proofs.leaf_ways.set_off_keeping.Goals as goal

pub returns-then-near-tree-clause-set_off : goal.returns-then-near-tree-clause-set_off
returns-then-near-tree-clause-set_off c =
    let observed = c.relay_near.ensures.observed in
    (observed.0, observed.1, near_off _ _ _ c.args.sought c.args.key _ _ _ _ observed.2 c.probe.ensures.looked c.probe.ensures.runs)

pub returns-clause-set_off : goal.returns-clause-set_off
returns-clause-set_off c =
    let observed = c.relay_far.ensures.observed in
    (observed.0, observed.1, far_off _ _ _ c.args.sought c.args.key _ observed.2 c.relay_far.ensures.runs)

pub returns-then-near-tree-clause-still : goal.returns-then-near-tree-clause-still
returns-then-near-tree-clause-still c = still_on c.args.hand.now.seat c.relay_near.new.hand.seat c.probe.new.hand.seat c.relay_near.ensures.still c.probe.ensures.still
