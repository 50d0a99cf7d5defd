use Rattle.std.proofs.Common.{◌≡◌, ◌+◌, ◌≤◌, ◌++◌, length}
use Rattle.std.specs.Prelude.{vec_len}
use Rattle.std.specs.Vec.{vec_capacity}
use Rattle.bl_map_log.specs.Notes.{seats_under}
use Rattle.bl_map_log.proofs.seating.give_seats.Given as goal

abbrev pub invariant-loop-handles : goal.invariant-loop-handles
invariant-loop-handles l = record {
  so_far : l.seats.items ++ seats_under l.handles.items ≡ l.fn.seats.items ++ seats_under l.fn.handles.items;
  room : vec_len l.seats + vec_len l.handles ≤ vec_capacity l.seats;
}

abbrev pub decreases-loop-handles : goal.decreases-loop-handles
decreases-loop-handles l = length l.handles.items
