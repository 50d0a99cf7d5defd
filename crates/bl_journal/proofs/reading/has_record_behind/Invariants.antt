use Rattle.std.proofs.Common.{length}
use Rattle.bl_journal.proofs.reading.has_record_behind.Given as goal

abbrev pub decreases-loop-rest : goal.decreases-loop-rest
decreases-loop-rest l = length l.rest
