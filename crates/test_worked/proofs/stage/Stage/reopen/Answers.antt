use Rattle.bl_index.proofs.Taken.{all_begun}
use Rattle.test_worked.proofs.stage.Stage.reopen.Goals as goal

pub returns-in-Ok : goal.returns-in-Ok
returns-in-Ok c = all_begun _ _ _ c.in-Ok.index _ c.in-Ok.ensures.ok.begun
