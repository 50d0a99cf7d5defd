use Rattle.std.proofs.Common.{inl}
use Rattle.test_store_rule.proofs.Steps.{gets}
use Rattle.test_store_rule.proofs.look.Goals as goal

pub get-requires-clause-rule : goal.get-requires-clause-rule
get-requires-clause-rule c = gets _ _ _ c.args.page (inl c.requires.page)
