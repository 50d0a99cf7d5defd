use Rattle.std.proofs.Common.{◌∙◌}
use Rattle.bl_map_tries.proofs.Pieces.{compression_given_up, compression_no_room, compression_done, not_lowered}
use Rattle.bl_map_tries.proofs.trying.try_compressing.Goals as goal

pub returns-in_default-clause-tries : goal.returns-in_default-clause-tries
returns-in_default-clause-tries c = compression_given_up _ _ _ _ _ _ _ _ _ c.release.ensures.same.2 c.release.ensures.swept c.requires.thin c.in_default.ensures.undone

pub returns-in-NoRoom-clause-tries : goal.returns-in-NoRoom-clause-tries
returns-in-NoRoom-clause-tries c = compression_no_room _ _ _ _ _ _ _ _ _ c.release.ensures.same.2 c.release.ensures.swept c.requires.thin c.in-Some.squeezed c.in-Some.more c.in-NoRoom.is c.in-Some.ensures.compresses

pub returns-then-try_lowering-clause-tries : goal.returns-then-try_lowering-clause-tries
returns-then-try_lowering-clause-tries c =
    let same = c.release.ensures.same.2 in
    compression_done _ _ _ _ _ _ _ _ c.in-Some.squeezed c.in-Some.more _ _ _ _ same (c.try_compress.ensures.same.2 ∙ same) c.requires.thin c.may_fall.ensures c.release.ensures.swept c.in_default-squeezed.not-NoRoom c.in-Some.ensures.compresses
    (c.try_lowering.ensures.lowers c.if-try_lowering.true)

pub returns-clause-tries : goal.returns-clause-tries
returns-clause-tries c =
    let same = c.release.ensures.same.2 in
    not_lowered _ _ _ _ _ _ _ _ c.in-Some.squeezed c.in-Some.more _ _ _ _ same (c.try_compress.ensures.same.2 ∙ same) c.requires.thin c.may_fall.ensures c.release.ensures.swept c.in_default-squeezed.not-NoRoom c.in-Some.ensures.compresses
    _ c.left_behind.ensures (c.try_lowering.ensures.stops c.if-try_lowering.false)
