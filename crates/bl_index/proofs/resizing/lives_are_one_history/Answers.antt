use Rattle.bl_index.proofs.Resized.{one_history, seen_life, resized_life}
use Rattle.bl_index.proofs.resizing.lives_are_one_history.Goals as goal

pub returns-clause-one : goal.returns-clause-one
returns-clause-one c = one_history

pub returns-clause-seen : goal.returns-clause-seen
returns-clause-seen c = seen_life

pub returns-clause-resized : goal.returns-clause-resized
returns-clause-resized c = resized_life
