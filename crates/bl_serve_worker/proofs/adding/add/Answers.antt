use Rattle.std.proofs.lemmas.Result.{on_ok_weaker}
use Rattle.bl_serve_worker.proofs.Lines.{summed_line}
use Rattle.bl_serve_worker.proofs.adding.add.Goals as goal

pub returns-clause-answers : goal.returns-clause-answers
returns-clause-answers g c = on_ok_weaker c.push_key_line.result
    (λ is. summed_line c.args.handle.now c.sum_up-reply.new.handle c.args.number c.args.key c.args.added _ _ _ c.sum_up-reply.ensures.adds is) c.push_key_line.ensures
