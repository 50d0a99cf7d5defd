use Rattle.bl_index_events.proofs.Standing.{same_all}
use Rattle.bl_index_descend.proofs.coming.come_within.Goals as goal

pub returns-then-not-latch_there-clause-came : goal.returns-then-not-latch_there-clause-came
returns-then-not-latch_there-clause-came g c = (tt, c.latch_there.ensures.missed c.if-not-latch_there.true)

pub returns-then-not-latch_there-clause-since : goal.returns-then-not-latch_there-clause-since
returns-then-not-latch_there-clause-since g c = same_all _ _ _ c.seek.ensures.since c.latch_there.ensures.since

pub returns-in-There-clause-since : goal.returns-in-There-clause-since
returns-in-There-clause-since g c =
    let latched = same_all _ _ _ c.seek.ensures.since c.latch_there.ensures.since in
    same_all _ _ _ latched c.read_latched.ensures.since

pub returns-in-Away-clause-came : goal.returns-in-Away-clause-came
returns-in-Away-clause-came g c = (c.move_on.ensures.free, c.move_on.ensures.runs.on)

pub returns-in-Away-clause-since : goal.returns-in-Away-clause-since
returns-in-Away-clause-since g c =
    let latched = same_all _ _ _ c.seek.ensures.since c.latch_there.ensures.since in
    let looked = same_all _ _ _ latched c.read_latched.ensures.since in
    same_all _ _ _ looked c.move_on.ensures.since
