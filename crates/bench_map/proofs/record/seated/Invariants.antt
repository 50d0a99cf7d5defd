use Rattle.std.proofs.Common.{All, length}
use Rattle.bl_map.specs.Maps.{AreSeatsOf}
use Rattle.bench_map.specs.Workers.{IsOf}
use Rattle.bench_map.proofs.record.seated.Given as goal

abbrev pub invariant-loop-seat : goal.invariant-loop-seat
invariant-loop-seat l = record {
  seats : AreSeatsOf l.map l.seats.items;
  workers : All (IsOf l.map) l.workers.items;
}

abbrev pub decreases-loop-seat : goal.decreases-loop-seat
decreases-loop-seat l = length l.seats.items
