use Rattle.bl_index_read.proofs.finding.find_key.Goals as goal

pub find_from-requires : goal.find_from-requires
find_from-requires c = record { off = (_, _, c.set_off-way.ensures.set_off) }

pub returns-clause-first : goal.returns-clause-first
returns-clause-first c = (c.find_from.ensures.answers _ _ c.set_off-way.ensures.set_off).0

pub returns-clause-answers : goal.returns-clause-answers
returns-clause-answers c = (c.find_from.ensures.answers _ _ c.set_off-way.ensures.set_off).1
