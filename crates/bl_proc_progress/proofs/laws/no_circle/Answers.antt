use Rattle.bl_proc_progress.proofs.Below.{latches_below}
use Rattle.bl_proc_progress.proofs.Chains.{ends}
use Rattle.bl_proc_progress.proofs.laws.no_circle.Goals as goal

pub returns-clause-order : goal.returns-clause-order
returns-clause-order c = λ w p x y g next held. (latches_below w g p y held x next).stands

pub returns-clause-ends : goal.returns-clause-ends
returns-clause-ends c = λ w p g. ends w g p
