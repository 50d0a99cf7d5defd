use Rattle.bl_index_write.proofs.writing.begin_write.Goals as goal

pub returns-clause-since : goal.returns-clause-since
returns-clause-since g c = c.descend.ensures.since _ _ c.begin_descent.ensures.begun
