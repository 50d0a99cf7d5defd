use Rattle.std.proofs.Common.{rules}
use Rattle.bl_map_calls.proofs.Adding.{nothing, then_adds, call_adds, call_works, adds_works, lost_more, made_one}
use Rattle.bl_map_calls.specs.Works.{NoneMade}
use Rattle.bl_map_calls.proofs.calls.find.Goals as goal

pub loop-init : goal.loop-init
loop-init g c = record { same = search rules; adds = nothing _ _ _; searches = NoneMade }

pub loop-preserved : goal.loop-preserved
loop-preserved g c = record {
  same = search rules;
  adds = then_adds _ _ _ _ _ c.loop.invariant.adds (call_adds _ _ _ _ _ c.loop.invariant.same.2 c.in_default.ensures.runs_out.adds);
  searches = lost_more _ _ _ _ _ _ _ _ _ c.loop.invariant.same.2 c.patience-turns.ensures c.loop.invariant.searches c.in_default.ensures.runs_out;
}

pub returns-in-Ok-clause-works : goal.returns-in-Ok-clause-works
returns-in-Ok-clause-works g c = adds_works _ _ _ _ _ _ _ c.loop.invariant.adds (call_works _ _ _ _ _ _ _ c.loop.invariant.same.2 c.in-Ok.ensures.found.answers)

pub returns-in-Ok-clause-searched : goal.returns-in-Ok-clause-searched
returns-in-Ok-clause-searched g c = made_one _ _ _ _ _ _ _ _ _ _ c.loop.invariant.same.2 c.patience-turns.ensures c.loop.invariant.searches c.in-Ok.ensures.found
