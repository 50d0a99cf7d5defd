use Rattle.std.proofs.Common.{◌≡◌}
use Rattle.bench_map.proofs.record.list.Given as goal

abbrev pub invariant-loop-number : goal.invariant-loop-number
invariant-loop-number g l = l.worker.handle.index ≡ l.fn.worker.handle.index
