use Rattle.test_worked.specs.Owning.{IsFit}
use Rattle.test_worked.proofs.answer_all.Given as goal

abbrev pub invariant-loop-line : goal.invariant-loop-line
invariant-loop-line g l = IsFit l.bench
