use Rattle.std.proofs.Common.{refl}
use Rattle.bl_map_calls.specs.Follows.{NothingDone}
use Rattle.bl_map_calls.proofs.Following.{keeps_sweep, keeps_followed}
use Rattle.bl_map_calls.proofs.room.mend_one.Goals as goal

pub returns-clause-readies : goal.returns-clause-readies
returns-clause-readies g c = keeps_sweep _ _ _ _ _ _ _ c.follow_hint-followed.ensures.same.2 (keeps_followed _ _ _ _ _ _ _ _ refl NothingDone c.follow_hint-followed.ensures.follows) c.sweep.ensures.sweeps
