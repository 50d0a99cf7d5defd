use Rattle.std.proofs.Common.{◌≡◌, ℕ, ◌++◌, ◌∷◌, [], refl, ap, sym, subst, length, arith, inl, inr, length-append}
use Rattle.std.proofs.lemmas.Result.{err_from_is_err_and}
use Rattle.bl_serve_lines.proofs.Known.{consumes_more, consumes_start}
use Rattle.bl_serve_reading.specs.Reading.{AsksEnd, AskNoEnd}
use Rattle.bl_serve_reading.proofs.Cutting.{asks_none, asks_more, asks_end, reads_none, reads_more, reads_rest, reads_end, reads_failed}
use Rattle.bl_serve_reading.proofs.section_reader.read_section.Goals as goal

pub loop-taken-init : goal.loop-taken-init
loop-taken-init g c = record {
  more = [];
  consumed = consumes_start _;
  reads = reads_none _ _ c.requires;
  no_end = subst (AskNoEnd c.args.sections) (sym c.requires) (asks_none c.args.sections);
  number = ap length c.requires;
}

-- memory fails where a line is kept
pub returns-in_err-push-in-Ok-Line : goal.returns-in_err-push-in-Ok-Line
returns-in_err-push-in-Ok-Line g c = let i = c.loop-taken.invariant in let e = rw c.in-Ok-Line.field-0-is at c.in-Ok-Line.ensures in
    let p = err_from_is_err_and c.from_residual.result c.from_residual.ensures.1 in
    rw (p.1, p.2) ([], i.more ++ e.1, consumes_more _ _ _ _ _ i.consumed e.2, tt)

pub returns-then-ended : goal.returns-then-ended
returns-then-ended g c = let i = c.loop-taken.invariant in let e = rw c.in-Ok-Line.field-0-is at c.in-Ok-Line.ensures in
    let grown = c.in_ok-push-in-Ok-Line.ensures in (
      [],
      i.more ++ e.1,
      consumes_more _ _ _ _ _ i.consumed e.2,
      (
        reads_more _ _ _ _ _ e.0 _ _ c.in-Ok-Line.request i.reads e.3.0 e.3.1 grown,
        (let n = i.number in let t = c.loop-taken-test.true in let a = ap length grown in let b = length-append c.loop-taken.lines (c.in-Ok-Line.request ∷ []) in let d : length (c.in-Ok-Line.request ∷ []) ≡ 1 = refl in omega (arith, n, t, a, b, d)),
        refl,
        asks_end c.args.sections c.loop-taken.lines _ c.in-Ok-Line.request i.no_end grown
            (subst (λ (n : ℕ). AsksEnd c.args.sections n c.in-Ok-Line.request) c.len.ensures (c.ends_section-ended.ensures.0 c.if-ended.true)),
      ),
    )

pub returns-in-Ok-Rest : goal.returns-in-Ok-Rest
returns-in-Ok-Rest g c = let i = c.loop-taken.invariant in let e = rw c.in-Ok-Rest.field-0-is at c.in-Ok-Rest.ensures in (
  e.0,
  i.more ++ e.1,
  consumes_more _ _ _ _ _ i.consumed e.2,
  (reads_rest _ _ _ _ _ e.0 _ i.reads e.3.2 e.3.0, (let n = i.number in let t = c.loop-taken-test.true in omega arith), e.3.1, i.no_end, e.3.3),
)

pub returns-in-Ok-End : goal.returns-in-Ok-End
returns-in-Ok-End g c = let i = c.loop-taken.invariant in let e = rw c.in-Ok-End.field-0-is at c.in-Ok-End.ensures in (
  [],
  i.more ++ e.1,
  consumes_more _ _ _ _ _ i.consumed e.2,
  (reads_end _ _ _ _ _ _ i.reads e.3.0 e.3.1, (let n = i.number in let t = c.loop-taken-test.true in omega arith), refl, i.no_end, inl (e.3.1, e.3.2)),
)

pub returns-in-Err : goal.returns-in-Err
returns-in-Err g c = let i = c.loop-taken.invariant in let e = c.in-Err.ensures in (
  e.0,
  i.more ++ e.1,
  consumes_more _ _ _ _ _ i.consumed e.2,
  (reads_failed _ _ _ _ _ e.0 _ i.reads e.3.1 e.3.2 e.3.0, i.no_end, e.3.2, e.3.3),
)

pub loop-taken-preserved : goal.loop-taken-preserved
loop-taken-preserved g c = let i = c.loop-taken.invariant in let e = rw c.in-Ok-Line.field-0-is at c.in-Ok-Line.ensures in
    let grown = c.in_ok-push-in-Ok-Line.ensures in
    let other : ¬ AsksEnd c.args.sections c.len.result c.in-Ok-Line.request = λ is. let t = c.ends_section-ended.ensures.1 is in let f = c.if-ended.false in cc in record {
      more = i.more ++ e.1;
      consumed = consumes_more _ _ _ _ _ i.consumed e.2;
      reads = reads_more _ _ _ _ _ e.0 _ _ c.in-Ok-Line.request i.reads e.3.0 e.3.1 grown;
      no_end = asks_more c.args.sections c.loop-taken.lines _ c.in-Ok-Line.request i.no_end grown (subst (λ (n : ℕ). ¬ AsksEnd c.args.sections n c.in-Ok-Line.request) c.len.ensures other);
      number = (let n = i.number in let a = ap length grown in let b = length-append c.loop-taken.lines (c.in-Ok-Line.request ∷ []) in let d : length (c.in-Ok-Line.request ∷ []) ≡ 1 = refl in omega (arith, n, a, b, d));
    }

pub returns : goal.returns
returns g c = let i = c.loop-taken.invariant in ([], i.more, i.consumed, (i.reads, (let n = i.number in let t = c.loop-taken-test.false in omega arith), refl, i.no_end, inr (let n = i.number in let t = c.loop-taken-test.false in omega arith)))
