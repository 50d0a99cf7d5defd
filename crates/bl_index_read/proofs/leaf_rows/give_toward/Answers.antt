use Rattle.bl_index_read.proofs.leaf_rows.give_toward.Goals as goal

pub returns-in-Up-clause-takes : goal.returns-in-Up-clause-takes
returns-in-Up-clause-takes g c = rw c.in-Up.is c.give_between.ensures.takes

pub returns-in-Down-clause-takes : goal.returns-in-Down-clause-takes
returns-in-Down-clause-takes g c = rw c.in-Down.is c.give_down.ensures.takes
