use Rattle.bl_replay_script.proofs.Readings.{one_reading, no_bad_line}
use Rattle.bl_replay_script.proofs.laws.has_one_reading.Goals as goal

pub returns-clause-one : goal.returns-clause-one
returns-clause-one c = one_reading

pub returns-clause-none : goal.returns-clause-none
returns-clause-none c = no_bad_line
