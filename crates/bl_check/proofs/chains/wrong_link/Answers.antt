use Rattle.std.proofs.Common.{◌≡◌, sym, subst, ap, get_or, ◌<◌, length, refl}
use Rattle.std.specs.Prelude.{IsSome}
use Rattle.bl_check.specs.Spans.{span_at, levels, leftmost}
use Rattle.bl_check.proofs.Reaching.{stands_live, marks_step, least_step}
use Rattle.bl_check.proofs.chains.wrong_link.Goals as goal

pub walk-requires-clause-live : goal.walk-requires-clause-live
walk-requires-clause-live c =
    let pages = c.args.pages.now in let level = c.loop-first.first-index in let roots = c.roots-first-items.ensures.roots in
    let lt : level < levels pages = subst (λ r. level < length r) roots c.loop-first-test.true in
    subst (λ r. IsSome (span_at pages (get_or r level 0))) (sym roots) (stands_live pages (leftmost pages level) level 0 (c.requires.leftmost 0 c.requires.some refl level lt))

pub loop-first-preserved : goal.loop-first-preserved
loop-first-preserved c =
    let pages = c.args.pages.now in let level = c.loop-first.first-index in
    let is : get_or c.roots-first-items.result.now level 0 ≡ leftmost pages level = ap (λ r. get_or r level 0) c.roots-first-items.ensures.roots in
    let walked = c.walk.ensures in record {
      marked = marks_step pages c.loop-first.marks c.walk.new.marks level _ is c.loop-first.invariant.marked walked.kept walked.met walked.only;
      least = least_step pages level _ c.loop-first.wrong c.walk.result c.lesser-wrong.result is c.loop-first.invariant.least walked.stops c.lesser-wrong.ensures;
    }
