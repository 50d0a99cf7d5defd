use Rattle.std.proofs.Common.{sym, ◌∙◌, refl, ap}
use Rattle.bl_proc.specs.Processes.{answer_of}
use Rattle.bl_world.specs.Views.{view_of}
use Rattle.bl_world.proofs.Arms.{stands, stood_is}
use Rattle.bl_world.proofs.Waiting.{is_going_here, not_going}
use Rattle.bl_world.proofs.lists.Lists.is_going.Goals as goal

pub returns-in-Some : goal.returns-in-Some
returns-in-Some c =
    let w = c.args.self.now in
    let p = stands w.processes.items c.args.index c.requires in
    let is = stood_is w.processes.items c.args.index p.0 c.index.result.now p.1 c.index.ensures in
    ((λ e. cc), λ g. absurd (not_going (view_of w) c.args.index p.0 c.in-Some.field-0 p.1 (ap answer_of is ∙ (sym c.answer.ensures ∙ c.in-Some.is)) g))

pub returns-in-None : goal.returns-in-None
returns-in-None c =
    let w = c.args.self.now in
    let p = stands w.processes.items c.args.index c.requires in
    let is = stood_is w.processes.items c.args.index p.0 c.index.result.now p.1 c.index.ensures in
    ((λ e. is_going_here (view_of w) c.args.index p.0 p.1 (ap answer_of is ∙ (sym c.answer.ensures ∙ c.in-None.is))), λ g. refl)
