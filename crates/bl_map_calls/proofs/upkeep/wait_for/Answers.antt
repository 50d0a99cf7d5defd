use Rattle.std.proofs.Common.{rules}
use Rattle.bl_map_calls.proofs.Adding.{nothing, then_adds, sweep_adds, swept_more}
use Rattle.bl_map_calls.specs.Works.{Never}
use Rattle.bl_map_calls.proofs.upkeep.wait_for.Goals as goal

pub loop-wait-init : goal.loop-wait-init
loop-wait-init g c = record { same = search rules; adds = nothing _ _ _; swept = Never }

pub loop-wait-preserved : goal.loop-wait-preserved
loop-wait-preserved g c = record {
  same = search rules;
  adds = then_adds _ _ _ _ _ c.loop-wait.invariant.adds (sweep_adds _ _ _ _ _ _ c.loop-wait.invariant.same.2 c.sweep.ensures.sweeps);
  swept = swept_more _ _ _ _ _ _ _ c.loop-wait.invariant.same.2 c.loop-wait.invariant.swept c.sweep.ensures.sweeps;
}
