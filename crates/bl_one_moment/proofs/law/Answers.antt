use Rattle.bl_one_moment.proofs.Together.{kept_agrees, range_agrees}
use Rattle.bl_one_moment.proofs.Counting.{unput_by_count}
use Rattle.bl_one_moment.proofs.law.Goals as goal

pub returns-clause-key : goal.returns-clause-key
returns-clause-key c = kept_agrees

pub returns-clause-range : goal.returns-clause-range
returns-clause-range c = range_agrees

pub returns-clause-count : goal.returns-clause-count
returns-clause-count c = unput_by_count
