use Rattle.bl_index_rule.proofs.Bounds.{gives_up_process}
use Rattle.bl_index_events.proofs.Withins.{ends_within}
use Rattle.bl_index_events.proofs.tree.Tree.give_up.Goals as goal

pub end-requires-clause-rule : goal.end-requires-clause-rule
end-requires-clause-rule c = gives_up_process _ _ _ c.requires.may

pub returns-clause-observed : goal.returns-clause-observed
returns-clause-observed c = c.end.ensures.observed.1.finishes

pub returns-clause-tidy : goal.returns-clause-tidy
returns-clause-tidy c = c.end.ensures.observed.1.tidy

pub returns-clause-leaves : goal.returns-clause-leaves
returns-clause-leaves c = c.end.ensures.observed.1.leaves

pub returns-clause-within : goal.returns-clause-within
returns-clause-within c = ends_within c.args.self.now.store.layout c.args.hand.now.seat c.end.new.hand.seat _ c.requires.own.1 c.end.ensures.same.0.1 c.requires.passes c.end.ensures.observed.1.finishes
