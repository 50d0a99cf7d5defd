use Rattle.std.proofs.Common.{ℕ, ◌-◌, ◌^◌, ◌⊎◌}
use Rattle.std.specs.Prelude.{IsSome}
use Rattle.bl_check.specs.Spans.{span_at}
use Rattle.bl_check.specs.Rules.{Reaches}
use Rattle.bl_check.specs.Walks.{IsMarked, FitsAt}
use Rattle.bl_check.proofs.Reaching.{low_at}
use Rattle.bl_check.proofs.chains.walk.Given as goal

abbrev pub invariant-chain : goal.invariant-chain
invariant-chain l = record {
  live : IsSome (span_at l.pages l.x);
  reached : Reaches l.pages l.first l.x;
  rest : (y : ℕ) → Reaches l.pages l.first y → (IsMarked l.marks y × FitsAt l.pages y) ⊎ Reaches l.pages l.x y;
  kept : (y : ℕ) → IsMarked l.fn.marks y → IsMarked l.marks y;
  only : (y : ℕ) → IsMarked l.marks y → IsMarked l.fn.marks y ⊎ Reaches l.pages l.first y;
}

abbrev pub decreases-chain : goal.decreases-chain
decreases-chain l = 2 ^ 64 - low_at l.pages l.x
