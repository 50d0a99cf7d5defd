use Rattle.std.proofs.Common.{rules}
use Rattle.bl_index_rule.proofs.Bounds.{ends_process}
use Rattle.bl_store.specs.Hands.{known}
use Rattle.bl_index_events.proofs.Held.{ends_keeps}
use Rattle.bl_index_events.proofs.Withins.{ends_within}
use Rattle.bl_index_events.proofs.Standing.{is_over}
use Rattle.bl_index_events.proofs.tree.Tree.conclude.Goals as goal

pub end-requires-clause-rule : goal.end-requires-clause-rule
end-requires-clause-rule c = let ends = c.requires.ends.1 in ends_process _ _ (known c.args.hand.now.seat) ends.at_end ends.over

pub returns-clause-rests : goal.returns-clause-rests
returns-clause-rests c = record {
  idle = search rules;
  within = (ends_within c.args.self.now.store.layout c.args.hand.now.seat c.end.new.hand.seat _ c.requires.runs.own.1 c.end.ensures.same.0.1 c.requires.runs.on.passes c.end.ensures.observed.1.0);
  over = search rules;
}

pub returns-clause-done : goal.returns-clause-done
returns-clause-done c = λ pass old first last since ends op work. is_over pass old (known c.args.hand.now.seat) (known c.end.new.hand.seat) first last since ends c.end.ensures.observed.1 op work

pub returns-clause-keeps : goal.returns-clause-keeps
returns-clause-keeps c = ends_keeps _ (known c.args.hand.now.seat) (known c.end.new.hand.seat) c.end.ensures.observed.1.0
