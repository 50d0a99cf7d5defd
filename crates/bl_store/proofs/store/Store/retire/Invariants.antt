use Rattle.bl_store.proofs.store.Store.retire.Given as goal

abbrev pub ghosts-seal : goal.ghosts-seal
ghosts-seal g a = record { page = a.page }
