use Rattle.std.proofs.Common.{arith, subst, sym}
use Rattle.bl_page.specs.Pairs.{NameChildren}
use Rattle.bl_rearrange.proofs.fitted.inner_with.Goals as goal

pub invariant_of-upper_inner : goal.invariant_of-upper_inner
invariant_of-upper_inner c = record {
  above_leaves = c.args.inner.above_leaves;
  below_limit = c.args.inner.below_limit;
  bounds = c.split_with-lower.ensures.below;
  link = c.args.inner.link;
  few = omega (arith, c.split_with-lower.ensures.upper_count);
  order = c.split_with-lower.ensures.upper_rising;
  cover = c.split_with-lower.ensures.upper_within;
  first = c.split_with-lower.ensures.upper_first;
  pages = c.split_with-lower.ensures.upper_children c.requires.child (subst NameChildren (sym c.as_slice.ensures.value) c.args.inner.pages);
}
