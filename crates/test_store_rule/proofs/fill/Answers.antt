use Rattle.std.proofs.Common.{arith}
use Rattle.test_store_rule.proofs.Steps.{puts, same_words}
use Rattle.test_store_rule.proofs.fill.Goals as goal

pub put-requires-clause-rule : goal.put-requires-clause-rule
put-requires-clause-rule c = puts _ _ _ c.args.page _ c.requires.holds (same_words 32 c.args.word (omega arith))
