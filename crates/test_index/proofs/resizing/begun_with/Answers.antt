use Rattle.bl_index.proofs.Taken.{all_begun}
use Rattle.test_index.proofs.resizing.begun_with.Goals as goal

pub returns-in-Ok : goal.returns-in-Ok
returns-in-Ok c = all_begun _ _ _ c.in-Ok.index c.in-Ok.passes.items c.in-Ok.ensures.ok.begun
