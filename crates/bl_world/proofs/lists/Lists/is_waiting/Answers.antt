use Rattle.std.proofs.Common.{arith, sym, ◌∙◌}
use Rattle.bl_proc_steps.specs.declared.acts.Action.TheVariants as act
use Rattle.bl_world.specs.Views.{view_of}
use Rattle.bl_world.proofs.Arms.{stands, read_at}
use Rattle.bl_world.proofs.Near.{latch_within}
use Rattle.bl_world.proofs.Turned.{next_observed}
use Rattle.bl_world.proofs.Waiting.{waits_where, waits_nowhere}
use Rattle.bl_world.proofs.lists.Lists.is_waiting.Goals as goal

pub index-requires-in-Latch : goal.index-requires-in-Latch
index-requires-in-Latch c =
    let w = c.args.self.now in
    let stood = stands w.processes.items c.args.index c.requires.started in
    let next = next_observed w.processes.items c.args.index stood.0 c.index.result.now stood.1 c.index.ensures (act.Latch c.in-Latch.at) c.in-Latch.ensures in
    let within = latch_within w.pages.items w.owners.items w.processes.items w.events.items c.args.index stood.0 c.in-Latch.at stood.1 c.requires.world next in
    omega (arith, within, w.paired)

pub returns-in-Latch : goal.returns-in-Latch
returns-in-Latch c =
    let w = c.args.self.now in
    let stood = stands w.processes.items c.args.index c.requires.started in
    let next = next_observed w.processes.items c.args.index stood.0 c.index.result.now stood.1 c.index.ensures (act.Latch c.in-Latch.at) c.in-Latch.ensures in
    let within = latch_within w.pages.items w.owners.items w.processes.items w.events.items c.args.index stood.0 c.in-Latch.at stood.1 c.requires.world next in
    let owns = read_at w.owners.items c.in-Latch.at c.index-in-Latch.result.now (omega (arith, within, w.paired)) c.index-in-Latch.ensures in
    waits_where (view_of w) c.args.index stood.0 stood.1 c.in-Latch.at c.index-in-Latch.result.now c.is_held.result next owns c.is_held.ensures

pub returns-in_default : goal.returns-in_default
returns-in_default c =
    let w = c.args.self.now in
    let stood = stands w.processes.items c.args.index c.requires.started in (
      (λ e. cc),
      λ s. absurd (waits_nowhere (view_of w) c.args.index stood.0 stood.1 (λ x e.
          c.in_default.not-Latch x (sym (next_observed w.processes.items c.args.index stood.0 c.index.result.now stood.1 c.index.ensures c.next.result c.next.ensures) ∙ e)) s),
    )
