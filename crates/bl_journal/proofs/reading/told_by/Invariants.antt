use Rattle.std.proofs.Common.{length}
use Rattle.bl_journal.proofs.Told.{HasRead}
use Rattle.bl_journal.proofs.reading.told_by.Given as goal

abbrev pub invariant-loop-body : goal.invariant-loop-body
invariant-loop-body l = HasRead l.salt l.words l.rest l.came.items l.went.items

abbrev pub decreases-loop-body : goal.decreases-loop-body
decreases-loop-body l = length l.rest
