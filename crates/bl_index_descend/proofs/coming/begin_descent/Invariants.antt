use Rattle.bl_index_descend.proofs.coming.begin_descent.Given as goal

abbrev pub ghosts-begin_as : goal.ghosts-begin_as
ghosts-begin_as g a = record { pass = a.hand.now.number; pages = a.self.now.store.layout.pages; passes = a.self.now.store.layout.passes; process = g.J.Unborn.unborn a.named.now }
