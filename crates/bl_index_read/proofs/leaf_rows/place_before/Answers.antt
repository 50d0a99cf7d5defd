use Rattle.bl_index_read.proofs.Picked.{ends_all}
use Rattle.bl_index_read.proofs.leaf_rows.place_before.Goals as goal

pub returns-in-Some-clause-ends : goal.returns-in-Some-clause-ends
returns-in-Some-clause-ends g c = rw c.in-Some.is c.place_below.ensures.ends

pub returns-in-None-clause-ends : goal.returns-in-None-clause-ends
returns-in-None-clause-ends g c = rw c.in-None.is (ends_all (g.W.Words.shown c.args.source.now c.args.hand.now) (g.W.Words.long _ _ c.requires.sees) c.requires.pairs c.args.first c.args.count c.requires.first c.requires.count)
