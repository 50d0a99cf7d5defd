use Rattle.bl_world.proofs.Arms.{stands}
use Rattle.bl_world.proofs.Near.{not_unseen}
use Rattle.bl_world.proofs.Outcomes.{ok_map}
use Rattle.bl_world.proofs.lists.Lists.look.Goals as goal

pub unreachable-requires : goal.unreachable-requires
unreachable-requires c =
    let w = c.args.self.now in
    let stood = stands w.processes.items c.args.index c.requires.started in
    not_unseen w.pages.items w.owners.items w.processes.items w.events.items c.args.index stood.0 c.args.number stood.1 c.requires.world (c.requires.next stood.0 stood.1).1 (λ x k of_page has. c.retired_for.ensures.none stood.0 x k stood.1 c.in-None.is of_page has)

pub returns-clause-ok : goal.returns-clause-ok
returns-clause-ok c = ok_map c.observed.result (λ f p stood.
    (let has = c.retired_for.ensures.some p c.in-Some.place stood c.in-Some.is in
    (has.0, c.in-Some.place, c.is_blocking-blocks.result, has.1, has.2, rw c.as_slice.ensures.value at c.is_blocking-blocks.ensures, (f p stood).0, (f p stood).1))) c.observed.ensures.ok
