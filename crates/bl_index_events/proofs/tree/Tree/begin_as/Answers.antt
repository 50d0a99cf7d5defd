use Rattle.std.proofs.Common.{ℕ, subst}
use Rattle.bl_store.specs.Hands.{known}
use Rattle.bl_store_rule.specs.Pages.{Begins as BeginsIn}
use Rattle.bl_index_rule.specs.Simulation.{Simulates}
use Rattle.bl_index_rule.specs.Observed.{begins}
use Rattle.bl_index_rule.proofs.Bounds.{begins_process}
use Rattle.bl_index_events.proofs.tree.Tree.begin_as.Goals as goal

pub begin-requires-clause-rule : goal.begin-requires-clause-rule
begin-requires-clause-rule g c = subst (λ (z : ℕ × ℕ × ℕ). BeginsIn Simulates c.args.self.now.store.layout c.args.hand.now.number (known c.args.hand.now.seat) (begins z.0 z.1 z.2 g.J.Launch.process)) (λ i. (c.requires.names.0 i, c.requires.names.1 i, c.requires.names.2 i))
    (begins_process c.args.self.now.store.layout c.args.hand.now.number (known c.args.hand.now.seat) g.J.Launch.process c.requires.next c.requires.unborn c.requires.course)
