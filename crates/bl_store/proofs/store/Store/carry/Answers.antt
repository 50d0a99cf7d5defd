use Rattle.std.proofs.Common.{ap, ◌∙◌}
use Rattle.bl_store.specs.declared.store.Hand.{Hand}
use Rattle.bl_store.proofs.Written.{still_reads}
use Rattle.bl_store.proofs.store.Store.carry.Goals as goal

pub seen_word-one-requires-clause-reads : goal.seen_word-one-requires-clause-reads
seen_word-one-requires-clause-reads g c = let inv = c.loop-pair.invariant in still_reads _ _ _ _ _ inv.same.1 inv.reads c.requires.reads

pub seen_word-two-requires-clause-reads : goal.seen_word-two-requires-clause-reads
seen_word-two-requires-clause-reads g c = let inv = c.loop-pair.invariant in still_reads _ _ _ _ _ (ap (λ (z : Hand g.row.D.Denot). z.seat.me.0.layout) c.seen_word-one.ensures.same ∙ inv.same.1) (ap (λ (z : Hand g.row.D.Denot). z.seat.me.0.reading) c.seen_word-one.ensures.same ∙ inv.reads) c.requires.reads
