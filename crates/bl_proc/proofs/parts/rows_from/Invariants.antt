use Rattle.std.proofs.Common.{◌≡◌, take}
use Rattle.bl_proc.proofs.parts.rows_from.Given as goal

abbrev pub invariant-loop-row : goal.invariant-loop-row
invariant-loop-row l = l.part.items ≡ take l.row-index l.rest
