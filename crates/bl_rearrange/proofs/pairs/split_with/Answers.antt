use Rattle.bl_rearrange.proofs.Parts.{halves_are}
use Rattle.bl_rearrange.proofs.pairs.split_with.Goals as goal

pub returns : goal.returns
returns c =
    rw c.as_slice.ensures.value (halves_are c.args.low c.args.high c.args.key c.args.word c.args.pairs.now c.split-lower.result.0.items c.split-lower.result.1.items
    c.requires.rising c.requires.within c.requires.covers c.requires.absent c.split-lower.ensures.pairs c.split-lower.ensures.lower c.split-lower.ensures.upper)
