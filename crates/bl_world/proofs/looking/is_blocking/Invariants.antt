use Rattle.bl_world.proofs.Retired.{Began}
use Rattle.bl_world.proofs.looking.is_blocking.Given as goal

abbrev pub invariant-loop-i : goal.invariant-loop-i
invariant-loop-i l = Began l.events l.number l.place l.i l.began
