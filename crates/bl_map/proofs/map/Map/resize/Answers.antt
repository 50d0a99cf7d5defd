use Rattle.bl_index.proofs.Taken.{all_begun}
use Rattle.bl_map.proofs.map.Map.resize.Goals as goal

pub returns-in-Ok-clause-seats : goal.returns-in-Ok-clause-seats
returns-in-Ok-clause-seats c = all_begun _ _ _ c.in-Ok.index c.in-Ok.seats.items c.in-Ok.ensures.ok.reopens.begun
