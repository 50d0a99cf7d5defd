use Rattle.std.proofs.Common.{sym, ◌∙◌, ap}
use Rattle.bl_model.specs.Rows.{map_of}
use Rattle.bl_proc_writes.proofs.Named.{listed-child}
use Rattle.bl_proc_writes.proofs.post_steps.arrived.Goals as goal

pub invariant_of-result : goal.invariant_of-result
invariant_of-result c = record {
  covers = c.requires;
  unlisted = sym (ap (λ pairs. map_of pairs c.args.key) c.as_slice.ensures.value) ∙ (sym c.listed_with.ensures ∙ c.in-None.is);
  names = listed-child c.child_of-child.ensures.key c.child_of-child.result c.args.parent.children.items c.args.parent.pages c.child_of-child.ensures.listed;
}
