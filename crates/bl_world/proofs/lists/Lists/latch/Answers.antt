use Rattle.std.proofs.Common.{arith, ◌≡◌, Some, slice_get, inl}
use Rattle.bl_world.specs.declared.owners.Owner.TheVariants as own
use Rattle.bl_world.proofs.Arms.{stands, read_at}
use Rattle.bl_world.proofs.Near.{latch_within}
use Rattle.bl_world.proofs.Outcomes.{ok_map}
use Rattle.bl_world.proofs.lists.Lists.latch.Goals as goal

pub index-requires : goal.index-requires
index-requires c =
    let w = c.args.self.now in
    let stood = stands w.processes.items c.args.index c.requires.started in
    let within = latch_within w.pages.items w.owners.items w.processes.items w.events.items c.args.index stood.0 c.args.at stood.1 c.requires.world (c.requires.next stood.0 stood.1).1 in
    omega (arith, within, w.paired)

pub own-requires-clause-within : goal.own-requires-clause-within
own-requires-clause-within c =
    let w = c.args.self.now in
    let stood = stands w.processes.items c.args.index c.requires.started in
    let within = latch_within w.pages.items w.owners.items w.processes.items w.events.items c.args.index stood.0 c.args.at stood.1 c.requires.world (c.requires.next stood.0 stood.1).1 in
    omega (arith, within, w.paired)

pub returns-in-Open-clause-ok : goal.returns-in-Open-clause-ok
returns-in-Open-clause-ok c = ok_map c.own.result (λ f p stood.
    (let w = c.args.self.now in
    let within = latch_within w.pages.items w.owners.items w.processes.items w.events.items c.args.index p c.args.at stood c.requires.world (c.requires.next p stood).1 in
    let free : slice_get w.owners.items c.args.at ≡ Some own.Open = rw c.in-Open.is at (read_at w.owners.items c.args.at c.index.result.now (omega (arith, within, w.paired)) c.index.ensures) in
    inl (free, (f p stood).0, (f p stood).1))) c.own.ensures.ok
