use Rattle.test_worked.specs.Owning.{IsFit}
use Rattle.test_worked.proofs.bench.Bench.answer.Given as goal

abbrev pub invariant-loop-round : goal.invariant-loop-round
invariant-loop-round g l = IsFit l.self
