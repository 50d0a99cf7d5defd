use Rattle.bl_serve_worker.proofs.Shares.{turn_idle}
use Rattle.bl_serve_worker.proofs.working.work_on.Goals as goal

pub returns : goal.returns
returns g c = turn_idle c.args.handle.now c.work_at.new.handle c.tidy_at_last.new.handle _ _ _ _ c.work_at.new.slot c.work_at.ensures c.tidy_at_last.ensures.same c.tidy_at_last.ensures.kept
