use Rattle.std.proofs.Common.{length, subst, sym, ap, arith}
use Rattle.bl_page.specs.Pairs.{RisesFrom, BeginsWith, NameChildren}
use Rattle.bl_load.specs.Trees.{AllBelow}
use Rattle.bl_load.proofs.Ordering.{rises_less, within, end_bound, below_end}
use Rattle.bl_load.proofs.making.inner_of.Goals as goal

pub invariant_of-result : goal.invariant_of-result
invariant_of-result c =
    let place = c.args.place in
    let m = c.requires.pairs in
    let e = c.collected-children.ensures.items in
    let size = ap length e in
    let children = m.children c.requires.level.0 in
    record {
      above_leaves = c.requires.level.0;
      below_limit = c.requires.level.1;
      bounds = end_bound place.low place.high (omega arith) m.bounds;
      link = omega arith;
      few = omega (arith, size, m.few);
      order = subst (RisesFrom 0) (sym e) (rises_less 0 place.low c.args.pairs.now (omega arith) m.rising);
      cover = within place.low place.high c.collected-children.result.items (subst (RisesFrom place.low) (sym e) m.rising)
          (below_end place.high c.collected-children.result.items c.collected-children.ensures.fit (λ some. subst (AllBelow place.high) (sym e) (m.below some)));
      first = subst (BeginsWith place.low) (sym e) children.0;
      pages = subst NameChildren (sym e) children.1;
    }
