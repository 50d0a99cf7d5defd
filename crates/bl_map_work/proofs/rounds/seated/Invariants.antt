use Rattle.std.proofs.Common.{◌≡◌, ◌+◌, ◌≤◌, ◌++◌, All, length}
use Rattle.std.specs.Prelude.{vec_len}
use Rattle.std.specs.Vec.{vec_capacity}
use Rattle.bl_map.specs.Maps.{AreSeatsOf}
use Rattle.bl_map_work.specs.Rounds.{IsFresh, seats_of, tasks_of}
use Rattle.bl_map_work.proofs.rounds.seated.Given as goal

abbrev pub invariant-loop-seats : goal.invariant-loop-seats
invariant-loop-seats g l = record {
  own : AreSeatsOf l.map l.seats.items;
  pairs : length l.tasks.items ≡ length l.seats.items;
  fresh : All (IsFresh l.map) l.workers.items;
  seats_are : seats_of l.workers.items ++ l.seats.items ≡ l.fn.seats.items;
  tasks_are : tasks_of l.workers.items ++ l.tasks.items ≡ l.fn.tasks.items;
  rooms : (vec_capacity l.seats ≡ vec_capacity l.fn.seats) × (vec_capacity l.tasks ≡ vec_capacity l.fn.tasks);
  space : vec_len l.workers + vec_len l.seats ≤ vec_capacity l.workers;
}

abbrev pub decreases-loop-seats : goal.decreases-loop-seats
decreases-loop-seats g l = length l.seats.items
