use Rattle.std.proofs.Common.{arith}
use Rattle.bl_world.proofs.Arms.{stands}
use Rattle.bl_world.proofs.Near.{put_within}
use Rattle.bl_world.proofs.lists.Lists.put.Goals as goal

pub index_mut-requires : goal.index_mut-requires
index_mut-requires c =
    let w = c.args.self.now in
    let stood = stands w.processes.items c.args.index c.requires.started in
    let within = put_within w.pages.items w.owners.items w.processes.items w.events.items c.args.index stood.0 c.args.at stood.1 c.requires.world c.args.page (c.requires.next stood.0 stood.1).1 in
    omega (arith, within)
