use Rattle.std.proofs.Common.{All, length}
use Rattle.bl_map.specs.Maps.{AreSeatsOf}
use Rattle.bench_map.specs.Workers.{IsOf}
use Rattle.bench_map.proofs.record.seats_of.Given as goal

abbrev pub invariant-loop-worker : goal.invariant-loop-worker
invariant-loop-worker l = record {
  workers : All (IsOf l.map) l.workers.items;
  seats : AreSeatsOf l.map l.seats.items;
}

abbrev pub decreases-loop-worker : goal.decreases-loop-worker
decreases-loop-worker l = length l.workers.items
