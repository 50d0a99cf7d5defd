use Rattle.std.proofs.Common.{ℕ, subst}
use Rattle.bl_store.specs.Hands.{known}
use Rattle.bl_store_rule.specs.Pages.{ReleasesMany}
use Rattle.bl_index_rule.specs.Simulation.{Simulates}
use Rattle.bl_index_rule.specs.Observed.{sweeps}
use Rattle.bl_index_rule.proofs.Releasing.{sweeps_pages}
use Rattle.bl_index_events.proofs.Withins.{sweep_within}
use Rattle.bl_index_events.proofs.tree.Tree.release.Goals as goal

pub sweep-requires-clause-rule : goal.sweep-requires-clause-rule
sweep-requires-clause-rule g c = subst (λ (z : ℕ × ℕ). ReleasesMany Simulates c.args.self.now.store.layout c.args.hand.now.number (known c.args.hand.now.seat) (sweeps z.0 g.J.Sweeper.number z.1)) (λ i. (c.requires.names.0 i, c.requires.names.2 i))
    (sweeps_pages c.args.self.now.store.layout c.args.hand.now.number g.J.Sweeper.number (known c.args.hand.now.seat) c.requires.rests c.requires.names.1)

pub returns-clause-within : goal.returns-clause-within
returns-clause-within g c = sweep_within c.args.self.now.store.layout c.args.hand.now.seat c.sweep.new.hand.seat _ _ _ _ c.requires.own.1 c.sweep.ensures.same.0.1 c.requires.names.2 c.requires.within c.sweep.ensures.observed.2
