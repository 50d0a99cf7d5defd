use Rattle.std.proofs.Common.{◌≡◌}
use Rattle.bench_map.proofs.record.work.Given as goal

abbrev pub invariant-loop-count : goal.invariant-loop-count
invariant-loop-count g l = l.worker.handle.index ≡ l.fn.worker.handle.index
