use Rattle.std.proofs.Common.{◌≡◌, ◌++◌, length}
use Rattle.std.specs.Prelude.{flat_map}
use Rattle.bl_map_log.specs.Notes.{came_noted, went_noted}
use Rattle.bl_map_log.proofs.collecting.collected.Given as goal

abbrev pub invariant-loop-rest : goal.invariant-loop-rest
invariant-loop-rest l = record {
  came : l.changes.came.items ++ flat_map came_noted l.rest ≡ came_noted l.first ++ flat_map came_noted l.others;
  went : l.changes.went.items ++ flat_map went_noted l.rest ≡ went_noted l.first ++ flat_map went_noted l.others;
}

abbrev pub decreases-loop-rest : goal.decreases-loop-rest
decreases-loop-rest l = length l.rest
