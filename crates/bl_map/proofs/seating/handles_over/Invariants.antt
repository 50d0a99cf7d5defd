use Rattle.std.proofs.Common.{◌≡◌, length}
use Rattle.std.specs.Prelude.{All}
use Rattle.std.specs.Vec.{vec_capacity}
use Rattle.bl_index.specs.Calls.{IsPassOf}
use Rattle.bl_map.proofs.Handed.{IsSeatedSo}
use Rattle.bl_map.proofs.seating.handles_over.Given as goal

abbrev pub invariant-loop-seats : goal.invariant-loop-seats
invariant-loop-seats l = record {
  own : All (IsPassOf l.index) l.seats.items;
  so_far : IsSeatedSo l.index l.fn.seats.items l.seats.items l.handles.items;
  room : vec_capacity l.seats ≡ vec_capacity l.fn.seats;
}

abbrev pub decreases-loop-seats : goal.decreases-loop-seats
decreases-loop-seats l = length l.seats.items
