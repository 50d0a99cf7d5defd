use Rattle.std.proofs.Common.{◌≡◌, ◌++◌, ◌∷◌, sym, subst, ◌∙◌, arith}
use Rattle.std.proofs.lemmas.List.{take_all}
use Rattle.bl_serve_lines.specs.Lines.{HasNoLf}
use Rattle.bl_replay_script.proofs.Endings.{long_no_line, rest_no_line}
use Rattle.bl_replay_script.proofs.lines.next_line.Goals as goal

-- the whole line was kept
pub returns-in-Ok-Whole : goal.returns-in-Ok-Whole
returns-in-Ok-Whole g c = let e = rw c.in-Ok-Whole.field-0-is at c.in-Ok-Whole.ensures in
    let same : c.next_line.new.line.items ≡ e.0 = e.3 ∙ take_all 70 e.0 (omega (arith, e.4.1)) in
    (e.1, e.2, (subst HasNoLf (sym same) e.4.0, subst (λ t. c.args.source.now ++ e.1 ≡ t ++ 10 ∷ c.next_line.new.self) (sym same) e.4.2))

pub returns-in-Ok-Long : goal.returns-in-Ok-Long
returns-in-Ok-Long g c = let e = rw c.in-Ok-Long.field-0-is at c.in-Ok-Long.ensures in
    (e.1, e.2, long_no_line _ e.0 _ _ e.4.0 e.4.1 e.4.2)

pub returns-in-Ok-Rest : goal.returns-in-Ok-Rest
returns-in-Ok-Rest g c = let e = rw c.in-Ok-Rest.field-0-is at c.in-Ok-Rest.ensures in
    (e.1, e.2, rest_no_line _ e.0 _ _ e.4.0 e.4.1 e.4.2 e.4.3)
