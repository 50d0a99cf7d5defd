use Rattle.bl_index.proofs.Taken.{all_begun}
use Rattle.bl_map.proofs.map.Map.open_image.Goals as goal

pub returns-clause-seats : goal.returns-clause-seats
returns-clause-seats c = all_begun _ _ _ c.in_ok-index.index c.in_ok-index.seats.items c.in_ok-index.ensures.ok.begun
