use Rattle.bl_rearrange.proofs.Joins.{shares_are, gains_are}
use Rattle.bl_rearrange.proofs.joining.evened_pairs.Goals as goal

pub returns-clause-shares : goal.returns-clause-shares
returns-clause-shares c =
    rw c.as_slice.ensures.value (shares_are c.args.low c.args.middle c.args.high c.args.left.items c.args.right.items c.halves-lower.result.0.items c.halves-lower.result.1.items
    c.requires.sides c.requires.left_few c.requires.right_few c.requires.past c.halves-lower.ensures.pairs c.halves-lower.ensures.half)

pub returns-clause-gains : goal.returns-clause-gains
returns-clause-gains c =
    let shares = shares_are c.args.low c.args.middle c.args.high c.args.left.items c.args.right.items c.halves-lower.result.0.items c.halves-lower.result.1.items
    c.requires.sides c.requires.left_few c.requires.right_few c.requires.past c.halves-lower.ensures.pairs c.halves-lower.ensures.half in
    rw c.as_slice.ensures.value (gains_are c.halves-lower.result.2 c.args.low c.args.middle c.args.high c.args.left.items c.args.right.items c.halves-lower.result.0.items c.halves-lower.result.1.items
    c.requires.sides c.halves-lower.ensures.pairs shares.upper_first c.halves-lower.ensures.gains)
