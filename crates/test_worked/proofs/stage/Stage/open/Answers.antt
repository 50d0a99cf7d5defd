use Rattle.bl_index.proofs.Taken.{all_passes}
use Rattle.test_worked.proofs.stage.Stage.open.Goals as goal

pub returns : goal.returns
returns c = all_passes _ c.in_ok-index.index _ c.in_ok-index.ensures.ok
