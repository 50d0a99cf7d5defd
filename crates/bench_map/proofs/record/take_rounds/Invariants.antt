use Rattle.bl_map.specs.Maps.{AreSeatsOf}
use Rattle.bench_map.proofs.record.take_rounds.Given as goal

abbrev pub invariant-loop-number : goal.invariant-loop-number
invariant-loop-number g l = AreSeatsOf l.map l.seats.items
