use Rattle.bl_proc_progress.proofs.Chains.{ends}
use Rattle.bl_proc_progress.proofs.Running.{holder_runs}
use Rattle.bl_index_progress.proofs.laws.waits_end.Goals as goal

pub returns-clause-ends : goal.returns-clause-ends
returns-clause-ends c = λ s rule p. ends rule.world rule.good p

pub returns-clause-inside : goal.returns-clause-inside
returns-clause-inside c = λ s rule p x held. (let r = holder_runs rule.world p x rule.good held in (r.0, rule.busy p r.0 r.1))
