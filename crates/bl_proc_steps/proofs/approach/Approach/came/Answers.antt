use Rattle.std.proofs.Common.{sym, subst}
use Rattle.bl_proc_steps.specs.declared.acts.Seen.{Seen}
use Rattle.bl_proc_steps.specs.declared.approach.Approach.{Approach}
use Rattle.bl_proc_steps.specs.Approaches.{Comes}
use Rattle.bl_proc_steps.proofs.approach.Approach.came.Goals as goal

pub returns-in-Words : goal.returns-in-Words
returns-in-Words c = subst (λ (z : Approach × Seen). Comes c.args.level c.args.key z.0 z.1 c.began.result) (λ i. (sym c.in-Start.is i, sym c.in-Words.is i)) (c.began.ensures c.args.key)
