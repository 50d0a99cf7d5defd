use Rattle.bl_index_read.specs.LeafWays.{fresh}
use Rattle.bl_index_read.proofs.leaf_ways.begin_far.Given as goal

abbrev pub ghosts-begin_as : goal.ghosts-begin_as
ghosts-begin_as a = record { pass = a.hand.now.number; pages = a.self.now.store.layout.pages; passes = a.self.now.store.layout.passes; process = fresh a.named.now.0 a.named.now.1 a.named.now.2 }
