use Rattle.bl_index.specs.Calls.{first_of}
use Rattle.bl_map.proofs.AllMet.{LearnsUpTo}
use Rattle.bl_map.proofs.meeting.learn_all.Given as goal

abbrev pub invariant-loop-number : goal.invariant-loop-number
invariant-loop-number l = LearnsUpTo (first_of l.index) l.fn.first l.first l.fn.others l.others l.number
