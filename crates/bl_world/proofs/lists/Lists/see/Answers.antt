use Rattle.std.proofs.Common.{arith, ◌≡◌, length}
use Rattle.bl_world.proofs.Arms.{stands, read_at}
use Rattle.bl_world.proofs.Near.{see_within}
use Rattle.bl_world.proofs.Outcomes.{ok_map}
use Rattle.bl_world.proofs.lists.Lists.see.Goals as goal

pub index-requires : goal.index-requires
index-requires c =
    let w = c.args.self.now in
    let stood = stands w.processes.items c.args.index c.requires.started in
    let within = see_within w.pages.items w.owners.items w.processes.items w.events.items c.args.index stood.0 c.args.at stood.1 c.requires.world (c.requires.next stood.0 stood.1).1 in
    omega (arith, within, w.paired)

pub returns-clause-ok : goal.returns-clause-ok
returns-clause-ok c = ok_map c.observed.result (λ f p stood.
    (let w = c.args.self.now in
    let within = see_within w.pages.items w.owners.items w.processes.items w.events.items c.args.index p c.args.at stood c.requires.world (c.requires.next p stood).1 in
    let there = read_at w.owners.items c.args.at c.index.result.now (omega (arith, within, w.paired)) c.index.ensures in
    let many : c.len-started.result ≡ length w.processes.items = omega (arith, c.len-started.ensures) in
    (c.index.result.now, there, (f p stood).0, rw (c.is_retired-retired.ensures, many) at (f p stood).1))) c.observed.ensures.ok
