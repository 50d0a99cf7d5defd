use Rattle.std.proofs.Common.{subst, sym}
use Rattle.bl_index_read.specs.declared.leaf_rows.Behind.{Behind}
use Rattle.bl_index_read.specs.Parts.{StandsBehind}
use Rattle.bl_index_read.proofs.listing.go_behind.Goals as goal

pub returns-in-Part-clause-stands : goal.returns-in-Part-clause-stands
returns-in-Part-clause-stands c =
    let off = c.set_off_behind.ensures.set_off in
    (off.0, off.1, subst (λ (b : Behind). StandsBehind c.args.tree.now c.set_off_behind.new.hand c.args.hand.now.number c.args.direction b c.set_off_behind.result off.0) (sym c.in-Part.is) off.2)
