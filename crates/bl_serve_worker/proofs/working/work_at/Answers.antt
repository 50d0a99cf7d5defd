use Rattle.bl_serve_worker.proofs.Noting.{kept_noted}
use Rattle.bl_serve_worker.proofs.Shares.{idle_logs}
use Rattle.bl_serve_worker.proofs.working.work_at.Goals as goal

pub returns-in-Compress : goal.returns-in-Compress
returns-in-Compress g c = let e = c.compress_at.ensures in
    (e.same, λ ok. idle_logs _ _ _ _ _ _ _ _ _ e.empty e.kept, λ ok keeps. kept_noted c.args.handle.now c.compress_at.new.handle c.compress_at.new.slot.changes e.kept e.unchanged.0 e.unchanged.1)
