use Rattle.bl_proc_progress.proofs.NeverLost.{never_lost_of}
use Rattle.bl_proc_progress.proofs.laws.never_lost.Goals as goal

pub returns : goal.returns
returns c = λ w p a f left at g state stage. never_lost_of w p a f left at g state stage
