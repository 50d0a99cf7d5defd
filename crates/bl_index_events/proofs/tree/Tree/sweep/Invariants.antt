use Rattle.std.proofs.Common.{◌+◌}
use Rattle.bl_store.specs.Hands.{known}
use Rattle.bl_index_events.proofs.tree.Tree.sweep.Given as goal

abbrev pub ghosts-release : goal.ghosts-release
ghosts-release a = record { pass = a.hand.now.number; number = (known a.hand.now.seat).number + 1; passes = a.self.now.store.layout.passes }
