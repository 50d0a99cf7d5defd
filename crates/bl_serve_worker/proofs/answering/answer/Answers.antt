use Rattle.std.proofs.Common.{◌≡◌, rules}
use Rattle.std.specs.Prelude.{Some}
use Rattle.std.proofs.lemmas.Result.{on_ok_weaker}
use Rattle.bl_serve_lines.specs.declared.request.Request.TheVariants.{Sync}
use Rattle.bl_serve_worker.proofs.Lines.{synced_line, malformed_line}
use Rattle.bl_serve_worker.proofs.Noting.{no_notes, answered_notes}
use Rattle.bl_serve_worker.proofs.answering.answer.Goals as goal

pub returns-in-Some-Sync-clause-answers : goal.returns-in-Some-Sync-clause-answers
returns-in-Some-Sync-clause-answers g c = let sync : c.args.request ≡ Some Sync = search rules in
    on_ok_weaker c.push_word_line.result (λ is. synced_line _ _ _ _ _ _ _ _ sync is) c.push_word_line.ensures

pub returns-in-None-clause-answers : goal.returns-in-None-clause-answers
returns-in-None-clause-answers g c = on_ok_weaker c.push_word_line-in-None.result (λ is. malformed_line _ _ _ _ _ _ _ _ c.in-None.is is) c.push_word_line-in-None.ensures

pub returns-in-Some-Scan-clause-noted : goal.returns-in-Some-Scan-clause-noted
returns-in-Some-Scan-clause-noted g c = on_ok_weaker c.scan-answered.result (λ is. answered_notes c.args.handle.now c.scan-answered.new.handle c.args.aside.now _ _ _ _ tt c.scan-answered.ensures.same is) c.scan-answered.ensures.answers

pub returns-in-Some-Save-clause-noted : goal.returns-in-Some-Save-clause-noted
returns-in-Some-Save-clause-noted g c = on_ok_weaker c.save-answered.result (λ is. answered_notes c.args.handle.now c.save-answered.new.handle c.args.aside.now _ _ _ _ tt c.save-answered.ensures.same is) c.save-answered.ensures.answers

pub returns-in-Some-Stat-clause-noted : goal.returns-in-Some-Stat-clause-noted
returns-in-Some-Stat-clause-noted g c = on_ok_weaker c.state-answered.result (λ is. no_notes c.args.handle.now c.args.aside.now) c.state-answered.ensures

pub returns-in-Some-Sync-clause-noted : goal.returns-in-Some-Sync-clause-noted
returns-in-Some-Sync-clause-noted g c = on_ok_weaker c.push_word_line.result (λ is. no_notes c.args.handle.now c.args.aside.now) c.push_word_line.ensures

pub returns-in-None-clause-noted : goal.returns-in-None-clause-noted
returns-in-None-clause-noted g c = on_ok_weaker c.push_word_line-in-None.result (λ is. no_notes c.args.handle.now c.args.aside.now) c.push_word_line-in-None.ensures
