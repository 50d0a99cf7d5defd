use Rattle.bl_index.proofs.index.Index.learn.Given as goal

abbrev pub ghosts-learn_by : goal.ghosts-learn_by
ghosts-learn_by a = record { pass = a.hand.now.number; other = a.other.now.number; passes = a.tree.now.store.layout.passes }
