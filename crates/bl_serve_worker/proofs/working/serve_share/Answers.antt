use Rattle.std.proofs.Common.{sym}
use Rattle.bl_serve_worker.proofs.Shares.{one_log}
use Rattle.bl_serve_worker.proofs.working.serve_share.Goals as goal

pub returns-clause-logs : goal.returns-clause-logs
returns-clause-logs g c = one_log _ _ _ _ _ _ _ _ _ _ c.in_ok-output.output (rw (sym c.in_ok-output.ensures.share) at c.in_ok-output.ensures.answers) c.in_ok-push.ensures.items
