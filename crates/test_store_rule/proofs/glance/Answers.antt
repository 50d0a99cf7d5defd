use Rattle.std.proofs.Common.{inl}
use Rattle.test_store_rule.proofs.Steps.{gets}
use Rattle.test_store_rule.proofs.glance.Goals as goal

pub glance-requires-clause-rule : goal.glance-requires-clause-rule
glance-requires-clause-rule c = gets _ _ _ c.args.page (inl c.requires.page)
