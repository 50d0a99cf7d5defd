use Rattle.bl_check.specs.Walks.{MarksChains, LeastWrong}
use Rattle.bl_check.proofs.chains.wrong_link.Given as goal

abbrev pub invariant-loop-first : goal.invariant-loop-first
invariant-loop-first l = record {
  marked : MarksChains l.marks l.pages l.first-index;
  least : LeastWrong l.wrong l.pages l.first-index;
}
