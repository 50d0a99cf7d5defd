use Rattle.std.proofs.Common.{◌≡◌, ◌∙◌, ◌++◌, ◌∷◌, [], ℕ, List, refl, ap, sym, drop, append-nil, subst, arith}
use Rattle.std.proofs.lemmas.List.{take_all}
use Rattle.bl_serve_lines.specs.Text.{Means}
use Rattle.bl_serve_lines.proofs.Known.{consumes_start}
use Rattle.bl_serve_lines.proofs.Long.{long_line}
use Rattle.bl_serve_reading.proofs.Cutting.{behind_line}
use Rattle.bl_serve_reading.proofs.section_reader.read_line.Goals as goal

-- the whole line was kept
pub returns-in-Ok-Whole : goal.returns-in-Ok-Whole
returns-in-Ok-Whole g c = let e = rw c.in-Ok-Whole.field-0-is at c.in-Ok-Whole.ensures in
    let same : c.as_slice.result.now ≡ e.0 = c.as_slice.ensures.value ∙ e.3 ∙ take_all 70 e.0 (omega (arith, e.4.1)) in
    (e.0, e.1, e.2, (record { cut = e.4.0; means = subst (λ t. Means t c.parse.result) same c.parse.ensures.meaning }, e.4.2))

pub returns-in-Ok-Long : goal.returns-in-Ok-Long
returns-in-Ok-Long g c = let e = rw c.in-Ok-Long.field-0-is at c.in-Ok-Long.ensures in
    (e.0, e.1, e.2, (record { cut = e.4.0; means = long_line e.0 e.4.1 }, e.4.2))

pub returns-in-Ok-Rest : goal.returns-in-Ok-Rest
returns-in-Ok-Rest g c = let e = rw c.in-Ok-Rest.field-0-is at c.in-Ok-Rest.ensures in (e.0, e.1, e.2, e.4)

pub returns-in-Ok-End : goal.returns-in-Ok-End
returns-in-Ok-End g c = let e = rw c.in-Ok-End.field-0-is at c.in-Ok-End.ensures in (e.0, e.1, e.2, (e.4.1, e.4.2, e.4.3))

pub returns-in-Err : goal.returns-in-Err
returns-in-Err g c = let e = c.in-Err.ensures in (e.0, e.1, e.2, e.4)

-- the line stands in what was read ahead
pub returns-in-Some : goal.returns-in-Some
returns-in-Some g c = let f = c.in-Some.ensures in let line = c.in-Some.front.now in (
  line,
  [],
  consumes_start _,
  (
    record { cut = f.cut; means = c.parse-request.ensures.meaning },
    append-nil c.args.source.now ∙ (f.begins ∙ ap (λ (z : List ℕ). line ++ 10 ∷ z) (sym (c.pass_over.ensures ∙ (ap (drop _) f.begins ∙ behind_line line f.rest _ refl)))),
  ),
)
