use Rattle.std.proofs.Common.{◌++◌, ap, ◌∙◌}
use Rattle.bl_rearrange.proofs.Joins.{joined_is, joined_where}
use Rattle.bl_rearrange.proofs.joining.joined_pairs.Goals as goal

pub returns : goal.returns
returns c = joined_where c.extended.result (λ past. rw c.as_slice.ensures.value at past)
    (λ all h. let few = rw c.as_slice.ensures.value at h.0 in
    (few, joined_is c.args.low c.args.middle c.args.high c.args.left.items c.args.right.items all.items c.requires few (h.1 ∙ ap (λ pairs. c.args.left.items ++ pairs) c.as_slice.ensures.value)))
    c.extended.ensures
