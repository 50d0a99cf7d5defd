use Rattle.test_store_rule.proofs.Steps.{begins}
use Rattle.test_store_rule.proofs.begin.Goals as goal

pub begin-requires-clause-rule : goal.begin-requires-clause-rule
begin-requires-clause-rule c = begins _ _ _
