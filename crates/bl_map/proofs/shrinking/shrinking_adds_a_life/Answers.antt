use Rattle.bl_map.proofs.LaidAnew.{one_life_more}
use Rattle.bl_map.proofs.shrinking.shrinking_adds_a_life.Goals as goal

pub returns : goal.returns
returns c = one_life_more
