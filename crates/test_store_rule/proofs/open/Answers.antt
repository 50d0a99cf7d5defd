use Rattle.test_store_rule.proofs.Steps.{opens}
use Rattle.test_store_rule.proofs.open.Goals as goal

pub open-requires-clause-rule : goal.open-requires-clause-rule
open-requires-clause-rule c = opens _ _ _ c.args.page c.requires.holds
