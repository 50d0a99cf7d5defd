use Rattle.bl_rearrange.proofs.Parts.{dropped_is}
use Rattle.bl_rearrange.proofs.pairs.dropped_pair.Goals as goal

pub returns : goal.returns
returns c = rw c.dropped_at_place.ensures (dropped_is c.args.low c.args.high c.args.key c.args.pairs.items c.requires.rising c.requires.within)
