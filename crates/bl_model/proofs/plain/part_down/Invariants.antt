use Rattle.std.proofs.Common.{◌≡◌, ◌≤◌, take, reverse}
use Rattle.bl_model.proofs.plain.part_down.Given as goal

abbrev pub invariant-loop-i : goal.invariant-loop-i
invariant-loop-i l = record {
  taken : l.part.items ≡ take l.i (reverse l.rows);
  few : l.i ≤ 14;
}
