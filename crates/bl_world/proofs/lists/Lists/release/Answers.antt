use Rattle.std.proofs.Common.{arith, sym, ◌∙◌, inl, inr}
use Rattle.std.proofs.lemmas.Bool.{false≢true}
use Rattle.bl_world.proofs.Arms.{stands}
use Rattle.bl_world.proofs.Near.{release_within}
use Rattle.bl_world.proofs.Outcomes.{ok_map}
use Rattle.bl_world.proofs.lists.Lists.release.Goals as goal

pub may_release-requires-clause-within : goal.may_release-requires-clause-within
may_release-requires-clause-within c =
    let w = c.args.self.now in
    let stood = stands w.processes.items c.args.index c.requires.started in
    let within = release_within w.pages.items w.owners.items w.processes.items w.events.items c.args.index stood.0 c.args.at stood.1 c.requires.world (c.requires.next stood.0 stood.1).1 in
    omega (arith, within, w.paired)

pub returns-then-not-may_release-clause-ok : goal.returns-then-not-may_release-clause-ok
returns-then-not-may_release-clause-ok c = ok_map c.observed.result (λ f p stood. inr ((λ may. false≢true (sym c.if-not-may_release.true ∙ c.may_release.ensures.1 may)), (f p stood).0, (f p stood).1)) c.observed.ensures.ok

pub own-requires-clause-within : goal.own-requires-clause-within
own-requires-clause-within c =
    let w = c.args.self.now in
    let stood = stands w.processes.items c.args.index c.requires.started in
    let within = release_within w.pages.items w.owners.items w.processes.items w.events.items c.args.index stood.0 c.args.at stood.1 c.requires.world (c.requires.next stood.0 stood.1).1 in
    omega (arith, within, w.paired)

pub returns-clause-ok : goal.returns-clause-ok
returns-clause-ok c = ok_map c.own.result (λ f p stood. inl (c.may_release.ensures.0 c.if-not-may_release.false, (f p stood).0, (f p stood).1)) c.own.ensures.ok
