use Rattle.bl_check.proofs.Rising.{never_round}
use Rattle.bl_check.proofs.laws.chains_end.Goals as goal

pub returns : goal.returns
returns c = never_round
