use Rattle.std.proofs.Common.{refl, inr}
use Rattle.bl_proc_compress.proofs.compression_steps.evening.Goals as goal

pub returns-in-None : goal.returns-in-None
returns-in-None c = (refl, inr (c.requires, (c.evened-left.result, c.evened-left.ensures, c.in-None.ensures)))
