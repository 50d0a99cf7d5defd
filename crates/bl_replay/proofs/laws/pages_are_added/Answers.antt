use Rattle.bl_replay.proofs.Adding.{left_out, added}
use Rattle.bl_replay.proofs.laws.pages_are_added.Goals as goal

pub returns-clause-left_out : goal.returns-clause-left_out
returns-clause-left_out c = left_out

pub returns-clause-added : goal.returns-clause-added
returns-clause-added c = added
