use Rattle.test_store_rule.proofs.Steps.{meets}
use Rattle.test_store_rule.proofs.meet.Goals as goal

pub meet-requires-clause-rule : goal.meet-requires-clause-rule
meet-requires-clause-rule c = meets _ _ _ _ _
