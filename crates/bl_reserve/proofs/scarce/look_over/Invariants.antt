use Rattle.std.proofs.Common.{◌≤◌}
use Rattle.bl_reserve.proofs.scarce.look_over.Given as goal

abbrev pub invariant-loop-frame : goal.invariant-loop-frame
invariant-loop-frame g l = l.free ≤ l.wanted
