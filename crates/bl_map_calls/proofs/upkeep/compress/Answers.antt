use Rattle.std.proofs.Common.{◌∙◌}
use Rattle.bl_map_calls.proofs.Following.{compressed, compression_refused}
use Rattle.bl_map_calls.proofs.upkeep.compress.Goals as goal

pub returns-in-NoRoom-clause-follows : goal.returns-in-NoRoom-clause-follows
returns-in-NoRoom-clause-follows g c =
    let same = c.wait_for.ensures.same.2 in
    compression_refused _ _ _ _ _ _ _ _ _ _ _ _ _ same (c.compress-squeezed.ensures.same.2 ∙ same) c.may_fall.ensures c.wait_for.ensures.swept c.compress-squeezed.ensures.compresses c.lower.ensures.lowers c.in-NoRoom.is

pub returns-in_default-clause-follows : goal.returns-in_default-clause-follows
returns-in_default-clause-follows g c =
    let same = c.wait_for.ensures.same.2 in
    compressed _ _ _ _ _ _ _ _ _ _ _ _ _ same (c.compress-squeezed.ensures.same.2 ∙ same) c.may_fall.ensures c.wait_for.ensures.swept c.compress-squeezed.ensures.compresses c.lower.ensures.lowers c.in_default.not-NoRoom
