use Rattle.bl_index_read.specs.LeafWays.{fresh}
use Rattle.bl_index_read.proofs.leaf_ways.renew_far.Given as goal

abbrev pub ghosts-relaunch : goal.ghosts-relaunch
ghosts-relaunch a = record { pass = a.hand.now.number; pages = a.tree.now.store.layout.pages; passes = a.tree.now.store.layout.passes; process = fresh a.sought a.key a.near }
