use Rattle.std.proofs.Common.{◌≡◌, sym, subst, ◌∙◌, arith}
use Rattle.std.proofs.lemmas.List.{take_all}
use Rattle.bl_row_lines.proofs.Endings.{long_bad, rest_bad, senseless, row_read}
use Rattle.bl_row_lines.proofs.row.read_row.Goals as goal

pub returns-in-Ok-Long : goal.returns-in-Ok-Long
returns-in-Ok-Long g c = let e = rw c.in-Ok-Long.field-0-is at c.in-Ok-Long.ensures in
    (e.1, e.2, long_bad _ e.0 _ _ e.4.0 e.4.1 e.4.2)

pub returns-in-Ok-Rest : goal.returns-in-Ok-Rest
returns-in-Ok-Rest g c = let e = rw c.in-Ok-Rest.field-0-is at c.in-Ok-Rest.ensures in
    (e.1, e.2, rest_bad _ e.0 _ _ e.4.0 e.4.1 e.4.2 e.4.3)

-- the whole line was kept
pub returns-in-Some : goal.returns-in-Some
returns-in-Some g c = let e = rw c.in-Ok-Whole.field-0-is at c.in-Ok-Whole.ensures in
    let same : c.as_slice.result.now ≡ e.0 = c.as_slice.ensures.value ∙ e.3 ∙ take_all 70 e.0 (omega (arith, e.4.1)) in
    (e.1, e.2, row_read _ e.0 c.as_slice.result.now _ (c.in-Some.key, c.in-Some.value) e.4.2 same c.in-Some.ensures)

pub returns-in-None : goal.returns-in-None
returns-in-None g c = let e = rw c.in-Ok-Whole.field-0-is at c.in-Ok-Whole.ensures in
    let same : c.as_slice.result.now ≡ e.0 = c.as_slice.ensures.value ∙ e.3 ∙ take_all 70 e.0 (omega (arith, e.4.1)) in
    (e.1, e.2, senseless _ e.0 c.as_slice.result.now _ _ e.4.0 e.4.2 same c.in-None.ensures)
