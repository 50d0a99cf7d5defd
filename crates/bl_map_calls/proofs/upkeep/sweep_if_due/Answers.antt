use Rattle.bl_map_calls.specs.Works.{Never, Again}
use Rattle.bl_map_calls.proofs.upkeep.sweep_if_due.Goals as goal

pub returns-then-is_due-clause-swept : goal.returns-then-is_due-clause-swept
returns-then-is_due-clause-swept c = Again Never c.sweep.ensures.sweeps

pub returns-else-is_due-clause-swept : goal.returns-else-is_due-clause-swept
returns-else-is_due-clause-swept c = Never
