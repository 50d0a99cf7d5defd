use Rattle.bl_store.specs.Hands.{known}
use Rattle.bl_index_rule.proofs.Bounds.{ends_process}
use Rattle.bl_index_read.proofs.Ways.{is_to_end, ending_course}
use Rattle.bl_index_events.proofs.Withins.{ends_within}
use Rattle.bl_index_read.proofs.leaf_ways.end_at_leaf.Goals as goal

pub end-requires-clause-rule : goal.end-requires-clause-rule
end-requires-clause-rule c =
    let at = c.requires.leaf in
    ends_process _ _ (known c.args.hand.now.seat) (is_to_end at.0 at.1 at.3.page _ at.3.ends) (ending_course at.0 at.1 at.3.page _ at.3.ends)

pub returns-clause-within : goal.returns-clause-within
returns-clause-within c = ends_within c.args.tree.now.store.layout c.args.hand.now.seat c.end.new.hand.seat _ c.requires.runs.own.1 c.end.ensures.same.0.1 c.requires.runs.on.passes c.end.ensures.observed.1.0

pub returns-clause-ended : goal.returns-clause-ended
returns-clause-ended c = c.end.ensures.observed.1
