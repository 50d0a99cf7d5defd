use Rattle.test_store_rule.proofs.Steps.{whole_at_end}
use Rattle.test_store_rule.proofs.shut.Goals as goal

pub returns-clause-whole : goal.returns-clause-whole
returns-clause-whole c = whole_at_end _ _ _ c.close.ensures
