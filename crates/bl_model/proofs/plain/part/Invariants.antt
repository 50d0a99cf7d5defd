use Rattle.std.proofs.Common.{◌≡◌, ◌≤◌, take}
use Rattle.bl_model.proofs.plain.part.Given as goal

abbrev pub invariant-loop-row : goal.invariant-loop-row
invariant-loop-row l = record {
  taken : l.part.items ≡ take l.row-index l.rows;
  few : l.row-index ≤ 14;
}
