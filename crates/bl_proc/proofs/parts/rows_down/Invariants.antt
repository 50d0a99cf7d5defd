use Rattle.std.proofs.Common.{◌≡◌, take, reverse}
use Rattle.bl_proc.proofs.parts.rows_down.Given as goal

abbrev pub invariant-loop-i : goal.invariant-loop-i
invariant-loop-i l = l.part.items ≡ take l.i (reverse (take l.count l.rows))
