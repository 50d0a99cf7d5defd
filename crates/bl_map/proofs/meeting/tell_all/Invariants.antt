use Rattle.bl_map.proofs.AllMet.{TellsUpTo}
use Rattle.bl_map.proofs.meeting.tell_all.Given as goal

abbrev pub invariant-loop-number : goal.invariant-loop-number
invariant-loop-number l = TellsUpTo l.fn.first l.first l.fn.others l.others l.number
