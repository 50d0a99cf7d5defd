use Rattle.test_store_rule.proofs.Steps.{takes, refuses}
use Rattle.test_store_rule.proofs.reserve.Goals as goal

pub reserve-requires-clause-takes : goal.reserve-requires-clause-takes
reserve-requires-clause-takes c = λ asked x. takes _ _ _ x (c.requires.none asked)

pub reserve-requires-clause-refuses : goal.reserve-requires-clause-refuses
reserve-requires-clause-refuses c = refuses _ _ _
