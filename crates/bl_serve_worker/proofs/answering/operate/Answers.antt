use Rattle.std.proofs.Common.{refl, ap, sym}
use Rattle.std.proofs.lemmas.Result.{on_ok_weaker}
use Rattle.bl_serve_lines.specs.declared.request.Request.TheVariants.{Ask}
use Rattle.bl_serve_worker.proofs.Lines.{asked_as}
use Rattle.bl_serve_worker.proofs.Noting.{answered_notes}
use Rattle.bl_serve_worker.proofs.answering.operate.Goals as goal

pub returns-in-Some-clause-answers : goal.returns-in-Some-clause-answers
returns-in-Some-clause-answers g c = on_ok_weaker c.push_key_line.result (λ is. asked_as _ _ _ _ _ _ _ _ _ _ _ _ refl (ap Ask (sym c.in-Some.ensures)) c.write-reply.ensures.called is) c.push_key_line.ensures

pub returns-in-Some-clause-noted : goal.returns-in-Some-clause-noted
returns-in-Some-clause-noted g c = on_ok_weaker c.push_key_line.result (λ is. c.write-reply.ensures.noted) c.push_key_line.ensures

pub returns-in-None-clause-noted : goal.returns-in-None-clause-noted
returns-in-None-clause-noted g c = on_ok_weaker c.look.result (λ is. answered_notes c.args.handle.now c.look.new.handle c.args.aside.now _ _ _ _ c.in-None.ensures c.look.ensures.same is) c.look.ensures.answers
