use Rattle.bl_proc_ends.proofs.Few.{turns_few}
use Rattle.bl_proc_ends.proofs.Turning.{turn_fewer}
use Rattle.bl_proc_ends.proofs.Meaning.{meant}
use Rattle.bl_proc_ends.proofs.laws.turns_end.Goals as goal

pub returns-clause-few : goal.returns-clause-few
returns-clause-few c = λ w p g meant. (let n = turns_few w g p meant in (n.turns, n.left, n.few))

pub returns-clause-fewer : goal.returns-clause-fewer
returns-clause-fewer c = λ w next p what turns g g' size same t observed no l. (let n = turn_fewer w next g g' p size same what turns t observed no l in (n.then, n.left, n.less))

pub returns-clause-meant : goal.returns-clause-meant
returns-clause-meant c = λ w next p what g t observed m. meant w next p what g t observed m
