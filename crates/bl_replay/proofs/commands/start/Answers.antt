use Rattle.bl_replay.proofs.commands.start.Goals as goal

pub start-requires : goal.start-requires
start-requires c = c.process_of.ensures.begins c.args.world.now c.requires
