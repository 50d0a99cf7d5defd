use Rattle.std.proofs.Common.{◌≡◌}
use Rattle.example_embedded.proofs.fill.Given as goal

abbrev pub invariant-loop-row : goal.invariant-loop-row
invariant-loop-row g l = l.handle.index ≡ l.fn.handle.index
