use Rattle.bl_rearrange.proofs.EnteredLemmas.{insert-place}
use Rattle.bl_rearrange.proofs.pairs.entered_at_place.Goals as goal

pub returns-clause-pairs : goal.returns-clause-pairs
returns-clause-pairs c = rw (c.insert.ensures.items, c.place_of-place.ensures.place, c.as_slice.ensures.value) (insert-place c.args.key c.args.word c.args.pairs.items)
