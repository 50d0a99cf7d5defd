use Rattle.std.proofs.Common.{rules}
use Rattle.bl_map_calls.specs.Follows.{NothingDone}
use Rattle.bl_map_calls.proofs.Following.{keeps_on}
use Rattle.bl_map_calls.proofs.room.walk.Goals as goal

pub loop-page-init : goal.loop-page-init
loop-page-init g c = record { same = search rules; readies = NothingDone }

pub loop-page-preserved : goal.loop-page-preserved
loop-page-preserved g c = let inv = c.loop-page.invariant in record { same = search rules; readies = keeps_on _ _ _ _ _ _ inv.same.2 inv.readies c.mend.ensures.readies }
