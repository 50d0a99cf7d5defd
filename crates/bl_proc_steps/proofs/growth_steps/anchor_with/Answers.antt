use Rattle.std.proofs.Common.{arith, subst, sym}
use Rattle.bl_page.specs.Pairs.{AreChildren}
use Rattle.bl_page.proofs.PagesIn.{AreChildren-push}
use Rattle.bl_proc_steps.proofs.growth_steps.anchor_with.Goals as goal

pub invariant_of-result : goal.invariant_of-result
invariant_of-result c = record {
  some = omega (arith, c.push.ensures.len);
  few = omega (arith, c.push.ensures.len, c.requires.room);
  pages = subst AreChildren (sym c.push.ensures.items) (AreChildren-push c.args.anchor.leftmost.items c.args.new c.args.anchor.pages c.requires.child);
}
