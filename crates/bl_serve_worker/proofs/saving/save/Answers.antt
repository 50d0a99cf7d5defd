use Rattle.std.proofs.Common.{ℕ, List, length, ap, true, false}
use Rattle.std.proofs.lemmas.Result.{on_ok_weaker}
use Rattle.bl_serve_worker.proofs.AllRows.{saved_line, saved_text_line}
use Rattle.bl_serve_worker.proofs.saving.save.Goals as goal

pub returns-then-not-save-clause-answers : goal.returns-then-not-save-clause-answers
returns-then-not-save-clause-answers g c = on_ok_weaker c.push_word_line.result
    (λ is. saved_line _ c.args.handle.now c.scan.new.self c.args.number false _ _ _ _ _ _ c.new-rows.ensures.items c.in_ok-scan.was c.scan.ensures.scanned is) c.push_word_line.ensures

pub returns-clause-answers : goal.returns-clause-answers
returns-clause-answers g c = saved_line _ c.args.handle.now c.scan.new.self c.args.number true _ _ _ _ _ _ c.new-rows.ensures.items c.in_ok-scan.was c.scan.ensures.scanned
    (saved_text_line _ _ _ _ _ _ _ (ap (λ (z : List (ℕ × ℕ)). length z) c.as_slice-list.ensures.value) c.in_ok-push_number.ensures c.in_ok-push_number-2.ensures c.in_ok-push.ensures.items)
