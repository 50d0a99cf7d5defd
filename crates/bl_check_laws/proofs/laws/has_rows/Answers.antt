use Rattle.bl_check_laws.proofs.Opened.{one_list, keys_fit}
use Rattle.bl_check_laws.proofs.laws.has_rows.Goals as goal

pub returns-clause-one : goal.returns-clause-one
returns-clause-one c = one_list

pub returns-clause-keys : goal.returns-clause-keys
returns-clause-keys c = keys_fit
