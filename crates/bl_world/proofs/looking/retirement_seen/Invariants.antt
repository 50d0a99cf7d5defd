use Rattle.bl_world.proofs.Retired.{Knows}
use Rattle.bl_world.proofs.looking.retirement_seen.Given as goal

abbrev pub invariant-loop-i : goal.invariant-loop-i
invariant-loop-i l = Knows l.events l.number l.page l.i l.retired l.seen
