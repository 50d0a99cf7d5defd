use Rattle.std.proofs.Common.{arith}
use Rattle.bl_world.proofs.Arms.{stands, read_at}
use Rattle.bl_world.proofs.Near.{get_within}
use Rattle.bl_world.proofs.Outcomes.{ok_map}
use Rattle.bl_world.proofs.lists.Lists.get.Goals as goal

pub index-requires : goal.index-requires
index-requires c =
    let w = c.args.self.now in
    let stood = stands w.processes.items c.args.index c.requires.started in
    let within = get_within w.pages.items w.owners.items w.processes.items w.events.items c.args.index stood.0 c.args.at stood.1 c.requires.world (c.requires.next stood.0 stood.1).1 in
    omega (arith, within)

pub returns-clause-ok : goal.returns-clause-ok
returns-clause-ok c = ok_map c.observed.result (λ f p stood.
    (let w = c.args.self.now in
    let within = get_within w.pages.items w.owners.items w.processes.items w.events.items c.args.index p c.args.at stood c.requires.world (c.requires.next p stood).1 in
    let page = read_at w.pages.items c.args.at c.index.result.now within c.index.ensures in
    (c.copied-page.result, rw c.copied-page.ensures page, (f p stood).0, (f p stood).1))) c.observed.ensures.ok
