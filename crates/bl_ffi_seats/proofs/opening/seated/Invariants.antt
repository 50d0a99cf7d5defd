use Rattle.std.specs.Prelude.{All, length}
use Rattle.std.specs.Arc.{arc_value}
use Rattle.bl_index.specs.Calls.{IsPassOf}
use Rattle.bl_ffi_seats.proofs.Made.{AreMadeSo}
use Rattle.bl_ffi_seats.proofs.opening.seated.Given as goal

abbrev pub invariant-loop-passes : goal.invariant-loop-passes
invariant-loop-passes l = record {
  own : All (IsPassOf (arc_value l.index)) l.passes.items;
  so_far : AreMadeSo (arc_value l.index) l.fn.passes.items l.passes.items l.seats.items;
}

abbrev pub decreases-loop-passes : goal.decreases-loop-passes
decreases-loop-passes l = length l.passes.items
