use Rattle.std.proofs.Common.{ap, ◌∙◌}
use Rattle.bl_world.specs.Views.{is_open as is_open_page}
use Rattle.bl_world.proofs.Arms.{found_there}
use Rattle.bl_world.proofs.Outcomes.{ok_map}
use Rattle.bl_world.proofs.lists.Lists.probe.Goals as goal

pub returns-clause-ok : goal.returns-clause-ok
returns-clause-ok c = ok_map c.observed.result (λ f p stood.
    (let owners = c.args.self.now.owners.items in
    let owner = c.copied-owner.ensures ∙ found_there owners c.args.at c.get.result (rw c.as_slice.ensures.value at c.get.ensures.lookup) in
    ((f p stood).0, rw (c.is_open.ensures ∙ ap is_open_page owner) at (f p stood).1))) c.observed.ensures.ok
