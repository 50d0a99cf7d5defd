use Rattle.std.proofs.Common.{◌≡◌, length}
use Rattle.std.specs.Prelude.{All}
use Rattle.std.specs.Vec.{vec_capacity}
use Rattle.bl_index.specs.Calls.{IsPassOf}
use Rattle.bl_map_log.proofs.Opened.{IsSeatedSo}
use Rattle.bl_map_log.proofs.log.MapLog.handles.Given as goal

abbrev pub invariant-loop-alloc : goal.invariant-loop-alloc
invariant-loop-alloc g l = record {
  own : All (IsPassOf l.map.index) l.seats.items;
  so_far : IsSeatedSo l.map l.fn.seats.items l.seats.items l.handles.items;
  room : vec_capacity l.seats ≡ vec_capacity l.fn.seats;
}

abbrev pub decreases-loop-alloc : goal.decreases-loop-alloc
decreases-loop-alloc g l = length l.seats.items
