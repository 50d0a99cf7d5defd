use Rattle.bl_index.proofs.index.Index.meet_hands.Given as goal

abbrev pub ghosts-learn_by : goal.ghosts-learn_by
ghosts-learn_by a = record { pass = a.hand.now.number; other = a.other.now.number; passes = a.tree.now.store.layout.passes }

abbrev pub ghosts-tell_by : goal.ghosts-tell_by
ghosts-tell_by a = record { pass = a.hand.now.number; other = a.other.now.number; passes = a.tree.now.store.layout.passes }
