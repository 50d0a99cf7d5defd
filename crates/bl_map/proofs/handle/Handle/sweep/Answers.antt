use Rattle.std.proofs.Common.{refl}
use Rattle.bl_map_calls.proofs.Adding.{sweep_adds}
use Rattle.bl_map.proofs.handle.Handle.sweep.Goals as goal

pub returns-clause-kept : goal.returns-clause-kept
returns-clause-kept c = sweep_adds _ _ _ _ _ _ refl c.sweep.ensures.sweeps
