use Rattle.std.proofs.Common.{length}
use Rattle.bl_map.specs.Maps.{AreSeatsOf}
use Rattle.bench_map.proofs.load.handles_of.Given as goal

abbrev pub invariant-loop-seat : goal.invariant-loop-seat
invariant-loop-seat l = AreSeatsOf l.map l.seats.items

abbrev pub decreases-loop-seat : goal.decreases-loop-seat
decreases-loop-seat l = length l.seats.items
