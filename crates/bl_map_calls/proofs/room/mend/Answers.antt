use Rattle.std.proofs.Common.{rules}
use Rattle.bl_map_calls.specs.Follows.{NothingDone}
use Rattle.bl_map_calls.proofs.Following.{keeps_on}
use Rattle.bl_map_calls.proofs.room.mend.Goals as goal

pub loop-level-init : goal.loop-level-init
loop-level-init g c = record { same = search rules; readies = NothingDone }

pub loop-level-preserved : goal.loop-level-preserved
loop-level-preserved g c = let inv = c.loop-level.invariant in record { same = search rules; readies = keeps_on _ _ _ _ _ _ inv.same.2 inv.readies c.mend_one-hint.ensures.readies }
