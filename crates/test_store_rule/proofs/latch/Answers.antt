use Rattle.test_store_rule.proofs.Steps.{latches, misses}
use Rattle.test_store_rule.proofs.latch.Goals as goal

pub try_latch-requires-clause-latches : goal.try_latch-requires-clause-latches
try_latch-requires-clause-latches c = latches _ _ _ c.args.page c.requires.empty

pub try_latch-requires-clause-misses : goal.try_latch-requires-clause-misses
try_latch-requires-clause-misses c = misses _ _ _ c.args.page
