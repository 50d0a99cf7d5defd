use Rattle.std.proofs.Common.{◌≡◌, ◌+◌, ◌≤◌, ◌++◌, length}
use Rattle.std.specs.Prelude.{vec_len}
use Rattle.std.specs.Vec.{vec_capacity}
use Rattle.bl_map_work.specs.Rounds.{seats_of, tasks_of}
use Rattle.bl_map_work.proofs.rounds.give_back.Given as goal

abbrev pub invariant-loop-workers : goal.invariant-loop-workers
invariant-loop-workers g l = record {
  seats_are : l.seats.items ++ seats_of l.workers.items ≡ seats_of l.fn.workers.items;
  tasks_are : l.tasks.items ++ tasks_of l.workers.items ≡ tasks_of l.fn.workers.items;
  room : (vec_len l.seats + vec_len l.workers ≤ vec_capacity l.seats) × (vec_len l.tasks + vec_len l.workers ≤ vec_capacity l.tasks);
}

abbrev pub decreases-loop-workers : goal.decreases-loop-workers
decreases-loop-workers g l = length l.workers.items
