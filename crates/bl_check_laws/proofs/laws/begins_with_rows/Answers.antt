use Rattle.bl_check_laws.proofs.Opened.{opened_begins}
use Rattle.bl_check_laws.proofs.laws.begins_with_rows.Goals as goal

pub returns : goal.returns
returns c = opened_begins
