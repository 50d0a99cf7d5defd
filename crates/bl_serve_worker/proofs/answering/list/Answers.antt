use Rattle.std.proofs.Common.{refl}
use Rattle.std.proofs.lemmas.Result.{on_ok_weaker}
use Rattle.bl_serve_worker.proofs.Lines.{asked_as}
use Rattle.bl_serve_worker.proofs.answering.list.Goals as goal

pub returns-clause-answers : goal.returns-clause-answers
returns-clause-answers g c = on_ok_weaker c.push_line.result (λ is. asked_as _ _ _ _ _ _ _ _ _ _ _ _ refl refl c.part-reply.ensures.called is) c.push_line.ensures
