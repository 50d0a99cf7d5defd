use Rattle.test_store_rule.proofs.Steps.{sweeps}
use Rattle.test_store_rule.proofs.sweep.Goals as goal

pub sweep-requires-clause-rule : goal.sweep-requires-clause-rule
sweep-requires-clause-rule c = sweeps _ _ _
