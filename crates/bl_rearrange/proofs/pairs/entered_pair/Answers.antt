use Rattle.bl_rearrange.proofs.Parts.{entered_is}
use Rattle.bl_rearrange.proofs.pairs.entered_pair.Goals as goal

pub returns : goal.returns
returns c = rw c.entered_at_place.ensures.pairs (entered_is c.args.low c.args.high c.args.key c.args.word c.args.pairs.items c.requires.rising c.requires.within c.requires.covers c.requires.absent)
