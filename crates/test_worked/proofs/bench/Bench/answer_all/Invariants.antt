use Rattle.test_worked.specs.Owning.{IsFit}
use Rattle.test_worked.proofs.bench.Bench.answer_all.Given as goal

abbrev pub invariant-loop-call : goal.invariant-loop-call
invariant-loop-call g l = IsFit l.self
