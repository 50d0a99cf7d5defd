use Rattle.bl_map_log.proofs.Rounds.{MeetsUpTo}
use Rattle.bl_map_log.proofs.meeting.meet_each.Given as goal

abbrev pub invariant-loop-number : goal.invariant-loop-number
invariant-loop-number l = MeetsUpTo l.fn.one l.one l.fn.others l.others l.number
