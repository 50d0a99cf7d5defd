use Rattle.std.proofs.Common.{arith}
use Rattle.bl_serve_worker.proofs.Lines.{counted_line}
use Rattle.bl_serve_worker.proofs.scanning.count.Goals as goal

pub returns-clause-answers : goal.returns-clause-answers
returns-clause-answers g c = counted_line c.args.handle.now c.count-count.new.self c.args.number c.args.low c.args.high c.count-count.result _ _ _ _ (omega arith)
    c.in_ok-push_number.ensures c.in_ok-push_number-2.ensures c.in_ok-push.ensures.items c.count-count.ensures.counted
