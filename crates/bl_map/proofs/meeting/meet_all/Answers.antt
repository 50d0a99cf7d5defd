use Rattle.bl_index.specs.Calls.{first_of}
use Rattle.bl_map.proofs.AllMet.{all_met, seated_all, seated_as}
use Rattle.bl_map.proofs.meeting.meet_all.Goals as goal

pub tell_all-requires-clause-own : goal.tell_all-requires-clause-own
tell_all-requires-clause-own c = let l = c.learn_all.ensures.learns in (
  seated_as c.args.index.now c.args.first.now c.learn_all.new.first l.same c.requires.own.0,
  seated_all c.args.index.now c.args.others.now c.learn_all.new.others c.requires.own.1 l.kept,
)

pub tell_all-requires-clause-begins : goal.tell_all-requires-clause-begins
tell_all-requires-clause-begins c = c.learn_all.ensures.learns.known

pub returns : goal.returns
returns c = all_met (first_of c.args.index.now) c.args.first.now c.learn_all.new.first c.tell_all.new.first c.args.others.now c.learn_all.new.others c.tell_all.new.others c.learn_all.ensures.learns c.tell_all.ensures.first c.tell_all.ensures.observed
