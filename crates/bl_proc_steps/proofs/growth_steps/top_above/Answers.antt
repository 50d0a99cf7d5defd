use Rattle.std.proofs.Common.{◌≡◌, ◌-◌, ◌≤◌, length, get_or, arith, ap, subst, sym, refl}
use Rattle.bl_page.specs.Pairs.{RisesFrom, AllWithin, BeginsWith, NameChildren, AreChildren, IsChild}
use Rattle.bl_page.proofs.PagesIn.{AreChildren-at}
use Rattle.bl_proc_steps.proofs.growth_steps.top_above.Goals as goal

pub invariant_of-result : goal.invariant_of-result
invariant_of-result c =
    let leftmost = c.as_slice-leftmost.result.now in
    let below = get_or leftmost (length leftmost - 1) 0 in
    let size : length leftmost ≡ length c.args.anchor.now.leftmost.items = ap length c.as_slice-leftmost.ensures.value in
    let pairs = sym c.only_pair-children.ensures in
    let all : AreChildren leftmost = subst AreChildren (sym c.as_slice-leftmost.ensures.value) c.args.anchor.now.pages in
    let some = c.args.anchor.now.some in
    let child : IsChild below = AreChildren-at leftmost (length leftmost - 1) all (omega (arith, size, some)) in
    record {
      above_leaves = omega (arith, size, some);
      below_limit = omega (arith, size, c.requires);
      bounds = omega arith;
      link = omega arith;
      few = subst (λ items. length items ≤ 14) pairs (omega arith);
      order = subst (RisesFrom 0) pairs (omega arith, tt);
      cover = subst (AllWithin 0 0) pairs ((omega arith, omega arith), tt);
      first = subst (BeginsWith 0) pairs refl;
      pages = subst NameChildren pairs (child, tt);
    }
