use Rattle.std.proofs.Common.{rules}
use Rattle.bl_index_write.proofs.writing.write_within.Goals as goal

pub returns-in-Ok-clause-ended : goal.returns-in-Ok-clause-ended
returns-in-Ok-clause-ended c =
    (c.end_write.ensures.rests, c.end_write.ensures.wrote _ _ (c.descend_within.ensures.since _ _ c.begin_descent.ensures.begun))

pub returns-in-Err-clause-underway : goal.returns-in-Err-clause-underway
returns-in-Err-clause-underway c =
    let came = c.in-Err.ensures.came in
    (came.0, record { own = search rules; running = search rules; on = came.1 }, c.descend_within.ensures.since _ _ c.begin_descent.ensures.begun)
