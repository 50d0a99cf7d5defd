use Rattle.std.proofs.Common.{ℕ, arith, ◌≡◌, length, subst}
use Rattle.bl_proc_steps.specs.declared.acts.Seen.TheVariants as seen
use Rattle.bl_world.specs.declared.turns.Act.TheVariants as shown
use Rattle.bl_world.specs.declared.owners.Owner.TheVariants as own
use Rattle.bl_world.specs.Views.{view_of}
use Rattle.bl_world.specs.Turns.{Owns, Tells}
use Rattle.bl_world.proofs.Arms.{stands}
use Rattle.bl_world.proofs.Near.{retire_within}
use Rattle.bl_world.proofs.Outcomes.{ok_map}
use Rattle.bl_world.proofs.lists.Lists.retire.Goals as goal

pub own-requires-clause-within : goal.own-requires-clause-within
own-requires-clause-within c =
    let w = c.args.self.now in
    let stood = stands w.processes.items c.args.index c.requires.started in
    let within = retire_within w.pages.items w.owners.items w.processes.items w.events.items c.args.index stood.0 c.args.at stood.1 c.requires.world (c.requires.next stood.0 stood.1).1 in
    omega (arith, within, w.paired)

pub returns-clause-ok : goal.returns-clause-ok
returns-clause-ok c = ok_map c.own.result (λ f p stood.
    (let v = view_of c.args.self.now in
    let v' = view_of c.own.new.self in
    let place : c.len-place.result ≡ length c.args.self.now.events.items = omega (arith, c.len-place.ensures) in
    subst (λ (z : ℕ). Owns v c.args.at (own.Retired z) v' × Tells v c.args.index p (shown.Retire c.args.at) seen.Done v') place (f p stood))) c.own.ensures.ok
