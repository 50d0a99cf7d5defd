use Rattle.bl_map_calls.proofs.Following.{hint_adds}
use Rattle.bl_map.proofs.handle.Handle.follow.Goals as goal

pub returns-clause-kept : goal.returns-clause-kept
returns-clause-kept g c = hint_adds _ _ _ _ _ _ c.follow_hint.ensures.follows
