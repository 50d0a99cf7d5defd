use Rattle.test_store_rule.proofs.Steps.{ends}
use Rattle.test_store_rule.proofs.end.Goals as goal

pub end-requires-clause-rule : goal.end-requires-clause-rule
end-requires-clause-rule c = ends _ _ _ c.requires.empty
