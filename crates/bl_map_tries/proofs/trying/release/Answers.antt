use Rattle.std.proofs.Common.{rules}
use Rattle.bl_map_calls.proofs.Adding.{swept_more}
use Rattle.bl_map_calls.specs.Works.{Never}
use Rattle.bl_map_tries.proofs.trying.release.Goals as goal

pub loop-sweep-init : goal.loop-sweep-init
loop-sweep-init c = record { same = search rules; swept = Never }

pub loop-sweep-preserved : goal.loop-sweep-preserved
loop-sweep-preserved c = let inv = c.loop-sweep.invariant in record {
  same = search rules;
  swept = swept_more _ _ _ _ _ _ _ inv.same.2 inv.swept c.sweep.ensures.sweeps;
}
