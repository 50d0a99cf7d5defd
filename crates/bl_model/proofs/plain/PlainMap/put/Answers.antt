use Rattle.std.proofs.Common.{refl}
use Rattle.bl_model.proofs.Places.{map_of-gap, rising-insert}
use Rattle.bl_model.proofs.Steps.{step_replaced, step_entered, OnErr_any}
use Rattle.bl_model.proofs.plain.PlainMap.put.Goals as goal

-- memory fails only where a row is added
pub returns-in_err-insert-in-Err-clause-memory : goal.returns-in_err-insert-in-Err-clause-memory
returns-in_err-insert-in-Err-clause-memory c = OnErr_any c.from_residual.result (map_of-gap _ _ _ c.in-Err.ensures.absent)

pub invariant_of-self-in-Err : goal.invariant_of-self-in-Err
invariant_of-self-in-Err c = rw c.in_ok-insert-in-Err.ensures.items (rising-insert _ _ _ (rw c.self.view_is c.in-Err.ensures.absent) _ c.self.invariant)

pub returns-in-Ok-clause-step : goal.returns-in-Ok-clause-step
returns-in-Ok-clause-step c = rw (← c.self.view_is) (step_replaced _ c.self.invariant _ _ (rw c.self.view_is c.in-Ok.ensures.found) _ c.index.ensures _ _ refl)

pub returns-in_ok-insert-in-Err-clause-step : goal.returns-in_ok-insert-in-Err-clause-step
returns-in_ok-insert-in-Err-clause-step c = rw (← c.self.view_is) (step_entered _ _ _ (rw c.self.view_is c.in-Err.ensures.absent) _ _ c.in_ok-insert-in-Err.ensures.items)
