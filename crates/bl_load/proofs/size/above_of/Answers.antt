use Rattle.std.proofs.Common.{◌≡◌, suc, ◌+◌, ◌-◌, ◌<◌, ap, sym, ◌∙◌, arith}
use Rattle.bl_load.specs.Sizes.{pages_above, pages_on_top}
use Rattle.bl_load.proofs.Levels.{above_none, above_zero, above_more, top_none, top_zero, top_more}
use Rattle.bl_load.proofs.size.above_of.Goals as goal

pub loop-level-init : goal.loop-level-init
loop-level-init c =
    let e : c.args.levels - 0 ≡ c.args.levels = omega arith in
    let same = ap (λ n. pages_above n c.args.fan c.args.count) e in
    record { pages = omega (arith, same); top = ap (λ n. pages_on_top n c.args.fan c.args.count) e; few = omega arith; small = omega (arith, c.requires.count) }

pub loop-level-preserved : goal.loop-level-preserved
loop-level-preserved c =
    let i = c.loop-level.invariant in
    let left = c.args.levels - c.loop-level.level in
    let rest = c.args.levels - (c.loop-level.level + 1) in
    let gt : 1 < c.loop-level.top = omega (arith, c.if-top-le1.false) in
    let is : left ≡ suc rest = omega (arith, c.loop-level-test.true) in
    let next = c.pages_for-top.result in
    let same = ap (pages_above rest c.args.fan) c.pages_for-top.ensures.pages in
    let more = above_more left rest c.args.fan c.loop-level.top is gt in
    let few = c.pages_for-top.ensures.few (omega arith) in
    record {
      pages = omega (arith, i.pages, more, same, c.pages_for-top.ensures.pages);
      top = ap (pages_on_top rest c.args.fan) c.pages_for-top.ensures.pages ∙ sym (top_more left rest c.args.fan c.loop-level.top is gt) ∙ i.top;
      few = omega (arith, i.few, few, i.small);
      small = omega (arith, few, i.small);
    }

pub returns-then-top-le1-clause-pages : goal.returns-then-top-le1-clause-pages
returns-then-top-le1-clause-pages c =
    let i = c.loop-level.invariant in
    let none = above_none (c.args.levels - c.loop-level.level) c.args.fan c.loop-level.top c.if-top-le1.true in omega (arith, i.pages, none)

pub returns-then-top-le1-clause-top : goal.returns-then-top-le1-clause-top
returns-then-top-le1-clause-top c = sym (top_none (c.args.levels - c.loop-level.level) c.args.fan c.loop-level.top c.if-top-le1.true) ∙ c.loop-level.invariant.top

pub returns-clause-pages : goal.returns-clause-pages
returns-clause-pages c =
    let i = c.loop-level.invariant in
    let e : c.args.levels - c.loop-level.level ≡ 0 = omega arith in
    let same = ap (λ n. pages_above n c.args.fan c.loop-level.top) e in
    let none = above_zero c.args.fan c.loop-level.top in omega (arith, i.pages, same, none)

pub returns-clause-top : goal.returns-clause-top
returns-clause-top c =
    let e : c.args.levels - c.loop-level.level ≡ 0 = omega arith in
    sym (ap (λ n. pages_on_top n c.args.fan c.loop-level.top) e ∙ top_zero c.args.fan c.loop-level.top) ∙ c.loop-level.invariant.top
