use Rattle.bl_store.proofs.Written.{still_reads}
use Rattle.bl_store.proofs.store.Store.carry_rest.Goals as goal

pub seen_word-word-requires-clause-reads : goal.seen_word-word-requires-clause-reads
seen_word-word-requires-clause-reads g c = let inv = c.loop-at.invariant in still_reads _ _ _ _ _ inv.same.1 inv.reads c.requires.reads
