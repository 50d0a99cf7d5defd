use Rattle.bl_load.proofs.Falls.{RiseBelow}
use Rattle.bl_load.proofs.order.first_fall.Given as goal

abbrev pub invariant-loop-i : goal.invariant-loop-i
invariant-loop-i l = RiseBelow l.rows l.i
