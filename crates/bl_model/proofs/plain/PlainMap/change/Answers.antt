use Rattle.std.proofs.Common.{rules, refl}
use Rattle.bl_model.proofs.Places.{rising-set}
use Rattle.bl_model.proofs.Steps.{step_changed, step_differs, step_unchanged}
use Rattle.bl_model.proofs.plain.PlainMap.change.Goals as goal

pub invariant_of-self : goal.invariant_of-self
invariant_of-self c = rising-set _ c.self.invariant _ _ (rw c.self.view_is c.in-Ok.ensures.found) c.args.new

pub returns-then-there-old-clause-step : goal.returns-then-there-old-clause-step
returns-then-there-old-clause-step c = rw (← c.self.view_is) (step_changed _ c.self.invariant _ _ (rw c.self.view_is c.in-Ok.ensures.found) _ c.index.ensures _ _ c.if-there-old.true _ refl)

pub returns-else-there-old-clause-step : goal.returns-else-there-old-clause-step
returns-else-there-old-clause-step c = rw (← c.self.view_is) (step_differs _ c.self.invariant _ _ (rw c.self.view_is c.in-Ok.ensures.found) _ c.index.ensures _ _ (search rules))

pub returns-in-Err-clause-step : goal.returns-in-Err-clause-step
returns-in-Err-clause-step c = step_unchanged _ _ _ c.in-Err.ensures.absent _ _
