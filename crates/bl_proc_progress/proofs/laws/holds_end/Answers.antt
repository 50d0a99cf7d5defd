use Rattle.bl_proc_progress.proofs.Nearing.{nears, holds_none}
use Rattle.bl_proc_progress.proofs.Running.{holder_runs}
use Rattle.bl_proc_progress.proofs.laws.holds_end.Goals as goal

pub returns-clause-none : goal.returns-clause-none
returns-clause-none c = λ w p x g none held. holds_none w p x g none held

pub returns-clause-nears : goal.returns-clause-nears
returns-clause-nears c = λ old new what t some. nears old new what t some

pub returns-clause-runs : goal.returns-clause-runs
returns-clause-runs c = λ w p x g held. holder_runs w p x g held
