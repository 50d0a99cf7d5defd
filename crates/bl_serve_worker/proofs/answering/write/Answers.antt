use Rattle.bl_serve_worker.proofs.Noting.{wrote}
use Rattle.bl_serve_worker.proofs.answering.write.Goals as goal

pub returns-clause-noted : goal.returns-clause-noted
returns-clause-noted g c = wrote c.args.handle.now c.write_leaving-reply.new.self c.args.aside.now c.take.new.self _ _ c.write_leaving-reply.ensures.same c.write_leaving-reply.ensures.called c.take.ensures
