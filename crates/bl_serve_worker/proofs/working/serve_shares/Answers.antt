use Rattle.std.proofs.Common.{rules}
use Rattle.bl_serve_worker.proofs.Noting.{no_notes, then_notes}
use Rattle.bl_serve_worker.proofs.Shares.{no_logs, then_logs}
use Rattle.bl_serve_worker.proofs.working.serve_shares.Goals as goal

pub loop-init : goal.loop-init
loop-init g c = record { same = search rules; logs = no_logs _ _ _ _ _ _ _ _; noted = no_notes c.args.handle.now c.args.aside.now }

pub loop-preserved : goal.loop-preserved
loop-preserved g c = let i = c.loop.invariant in let e = c.in_ok-serve_share.ensures in record {
  same = search rules;
  logs = then_logs c.args.handle.now c.loop.handle _ _ _ _ _ _ _ _ _ i.same i.logs e.logs;
  noted = then_notes c.args.handle.now c.loop.handle c.serve_share.new.handle c.args.aside.now c.loop.aside c.serve_share.new.aside i.noted e.noted;
}
