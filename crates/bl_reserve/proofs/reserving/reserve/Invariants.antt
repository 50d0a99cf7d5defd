use Rattle.bl_reserve.proofs.reserving.reserve.Given as goal

abbrev pub ghosts-refuse : goal.ghosts-refuse
ghosts-refuse g a = record { pages = a.pages; frames = a.frames }
