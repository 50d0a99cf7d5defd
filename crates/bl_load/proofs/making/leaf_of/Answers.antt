use Rattle.std.proofs.Common.{length, subst, sym, ap, arith}
use Rattle.bl_page.specs.Pairs.{RisesFrom}
use Rattle.bl_load.specs.Trees.{AllBelow}
use Rattle.bl_load.proofs.Ordering.{rises_less, within, end_bound, below_end}
use Rattle.bl_load.proofs.making.leaf_of.Goals as goal

pub invariant_of-result : goal.invariant_of-result
invariant_of-result c =
    let place = c.args.place in
    let m = c.requires in
    let e = c.collected-rows.ensures.items in
    let size = ap length e in
    record {
      bounds = end_bound place.low place.high (omega arith) m.bounds;
      link = omega arith;
      few = omega (arith, size, m.few);
      order = subst (RisesFrom 0) (sym e) (rises_less 0 place.low c.args.pairs.now (omega arith) m.rising);
      cover = within place.low place.high c.collected-rows.result.items (subst (RisesFrom place.low) (sym e) m.rising)
          (below_end place.high c.collected-rows.result.items c.collected-rows.ensures.fit (λ some. subst (AllBelow place.high) (sym e) (m.below some)));
    }
