use Rattle.bl_map_tries.proofs.Pieces.{keeps_add, keeps_on}
use Rattle.bl_map_tries.proofs.trying.try_upkeep.Goals as goal

pub returns-clause-keeps : goal.returns-clause-keeps
returns-clause-keeps c = keeps_on _ _ _ _ _ _ _ _ _ _ _ _ _ c.try_pieces.ensures.same.2 c.try_pieces.ensures.tries c.look_where_dropped.ensures.looks

pub returns-clause-adds : goal.returns-clause-adds
returns-clause-adds c = keeps_add _ _ _ _ _ _ _ _ _ _ (keeps_on _ _ _ _ _ _ _ _ _ _ _ _ _ c.try_pieces.ensures.same.2 c.try_pieces.ensures.tries c.look_where_dropped.ensures.looks)
