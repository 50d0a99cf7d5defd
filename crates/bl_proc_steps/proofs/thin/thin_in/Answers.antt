use Rattle.std.proofs.Common.{◌∙◌}
use Rattle.bl_proc_steps.proofs.Thinness.{thin_read}
use Rattle.bl_proc_steps.proofs.thin.thin_in.Goals as goal

pub returns : goal.returns
returns c = λ p tree e. c.low_if_thin.ensures ∙ thin_read p c.args.words.now tree e
