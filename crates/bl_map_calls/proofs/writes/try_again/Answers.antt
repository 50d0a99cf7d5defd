use Rattle.bl_index.specs.Calls.{trail}
use Rattle.bl_map_calls.proofs.Adding.{swept_more}
use Rattle.bl_map_calls.specs.Works.{Never}
use Rattle.bl_map_calls.proofs.writes.try_again.Goals as goal

pub returns-clause-tries : goal.returns-clause-tries
returns-clause-tries g c = record {
  mid = trail c.try_some.new.pass;
  tried = c.try_some.ensures.tries;
  sweeps = swept_more _ _ _ _ _ _ _ c.try_some.ensures.same.2 Never c.sweep.ensures.sweeps;
}
