use Rattle.bl_index_events.proofs.tree.Tree.begin.Given as goal

abbrev pub ghosts-begin_as : goal.ghosts-begin_as
ghosts-begin_as g a = record { pass = a.hand.now.number; pages = a.self.now.store.layout.pages; passes = a.self.now.store.layout.passes; process = g.P.Kind.proc_of a.named.now }
