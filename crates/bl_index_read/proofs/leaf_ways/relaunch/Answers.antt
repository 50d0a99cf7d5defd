use Rattle.std.proofs.Common.{ℕ, subst}
use Rattle.bl_store.specs.Hands.{known}
use Rattle.bl_store_rule.specs.Pages.{Begins as BeginsIn}
use Rattle.bl_index_rule.specs.Simulation.{Simulates}
use Rattle.bl_index_rule.specs.Observed.{begins}
use Rattle.bl_index_rule.proofs.Bounds.{begins_process, ends_process}
use Rattle.bl_index_read.proofs.Ways.{is_to_end, ending_course}
use Rattle.bl_index_read.proofs.leaf_ways.relaunch.Goals as goal

pub renew-requires-clause-ends : goal.renew-requires-clause-ends
renew-requires-clause-ends g c =
    let at = c.requires.leaf in
    ends_process _ _ (known c.args.hand.now.seat) (is_to_end at.0 at.1 at.3.page _ at.3.ends) (ending_course at.0 at.1 at.3.page _ at.3.ends)

pub renew-requires-clause-begins : goal.renew-requires-clause-begins
renew-requires-clause-begins g c = λ between now ended. subst (λ (z : ℕ × ℕ × ℕ). BeginsIn Simulates c.args.tree.now.store.layout c.args.hand.now.number between (begins z.0 z.1 z.2 g.J.Launch.process)) (λ i. (c.requires.names.0 i, c.requires.names.1 i, c.requires.names.2 i))
    (begins_process c.args.tree.now.store.layout c.args.hand.now.number between g.J.Launch.process c.requires.next c.requires.unborn c.requires.course)
