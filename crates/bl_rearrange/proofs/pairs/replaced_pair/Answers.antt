use Rattle.bl_rearrange.proofs.Parts.{replaced_is}
use Rattle.bl_rearrange.proofs.pairs.replaced_pair.Goals as goal

pub returns : goal.returns
returns c = rw c.replaced_at_place.ensures (replaced_is c.args.low c.args.high c.args.key c.args.word c.args.pairs.items c.requires.rising c.requires.within c.requires.listed)
