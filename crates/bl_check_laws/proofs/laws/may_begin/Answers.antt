use Rattle.bl_check_laws.proofs.Beginnings.{begins}
use Rattle.bl_check_laws.proofs.laws.may_begin.Goals as goal

pub returns : goal.returns
returns c = begins
