use Rattle.std.proofs.Common.{◌≡◌, ◌<◌, ◌≤◌, ◌-◌, length, take, arith, subst, sym}
use Rattle.bl_page.specs.Pairs.{AreChildren}
use Rattle.bl_proc_steps.proofs.Tops.{length_take, AreChildren-take}
use Rattle.bl_proc_steps.proofs.lowering_steps.anchor_without.Goals as goal

pub invariant_of-result : goal.invariant_of-result
invariant_of-result c =
    let items = c.args.anchor.leftmost.items in
    let is : c.pop.new.self.items ≡ take (length items - 1) items = c.pop.ensures.rest in
    let tall : 1 < length items = c.requires in
    let some = length_take (length items - 1) items (omega arith) in
    let few = c.args.anchor.few in
    record {
      some = subst (λ xs. 0 < length xs) (sym is) (omega (arith, some));
      few = subst (λ xs. length xs ≤ 12) (sym is) (omega (arith, some));
      pages = subst AreChildren (sym is) (AreChildren-take (length items - 1) items c.args.anchor.pages);
    }
