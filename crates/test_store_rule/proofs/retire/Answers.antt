use Rattle.test_store_rule.proofs.Steps.{retires}
use Rattle.test_store_rule.proofs.retire.Goals as goal

pub retire-requires-clause-rule : goal.retire-requires-clause-rule
retire-requires-clause-rule c = retires _ _ _ c.args.page c.requires.page.0 c.requires.holds
